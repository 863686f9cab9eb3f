pub mod AskedPages
pub mod AskedAgain
