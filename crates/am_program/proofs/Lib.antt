mod Owed
