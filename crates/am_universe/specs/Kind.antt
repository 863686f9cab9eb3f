-- Why something was refused: a number and a word for each kind of refusal.
use Rattle.std.specs.Prelude.{ℕ, List, codes}
use Rattle.am_universe.specs.declared.kind.Kind.{Kind}
use Rattle.am_universe.specs.declared.kind.Kind.TheVariants.{NotJson, Shape, UnknownField}
use Rattle.am_universe.specs.declared.kind.Kind.TheVariants.{BadMatcher, PatternProfile, Pattern}
use Rattle.am_universe.specs.declared.kind.Kind.TheVariants.{Duplicate, Empty, UndefinedReceiver}
use Rattle.am_universe.specs.declared.kind.Kind.TheVariants.{RootMatchers, BadTime, Limit}
use Rattle.am_universe.specs.declared.kind.Kind.TheVariants.{QuestionSyntax, UnknownReceiver}
use Rattle.am_universe.specs.declared.kind.Kind.TheVariants.{UnknownRoute, BadToken, OtherInputs}
use Rattle.am_universe.specs.declared.kind.Kind.TheVariants.{NeedAt, Write, Memory, Read, Unproved}
use Rattle.am_universe.specs.declared.kind.Kind.TheVariants.{Incomplete}

-- The number of a kind.
abbrev pub kind_number : Kind → ℕ
kind_number NotJson = 1
kind_number Shape = 2
kind_number UnknownField = 3
kind_number BadMatcher = 4
kind_number PatternProfile = 5
kind_number Pattern = 6
kind_number Duplicate = 7
kind_number Empty = 8
kind_number UndefinedReceiver = 9
kind_number RootMatchers = 10
kind_number BadTime = 11
kind_number Limit = 12
kind_number QuestionSyntax = 13
kind_number UnknownReceiver = 14
kind_number UnknownRoute = 15
kind_number BadToken = 16
kind_number NeedAt = 17
kind_number Write = 18
kind_number Memory = 19
kind_number Read = 20
kind_number OtherInputs = 21
kind_number Unproved = 22
kind_number Incomplete = 23

-- The word for a kind that the program prints.
abbrev pub kind_text : Kind → List ℕ
kind_text NotJson = codes "not-json"
kind_text Shape = codes "shape"
kind_text UnknownField = codes "unknown-field"
kind_text BadMatcher = codes "bad-matcher"
kind_text PatternProfile = codes "pattern-profile"
kind_text Pattern = codes "pattern"
kind_text Duplicate = codes "duplicate"
kind_text Empty = codes "empty"
kind_text UndefinedReceiver = codes "undefined-receiver"
kind_text RootMatchers = codes "root-matchers"
kind_text BadTime = codes "bad-time"
kind_text Limit = codes "limit"
kind_text QuestionSyntax = codes "question-syntax"
kind_text UnknownReceiver = codes "unknown-receiver"
kind_text UnknownRoute = codes "unknown-route"
kind_text BadToken = codes "bad-token"
kind_text OtherInputs = codes "other-inputs"
kind_text NeedAt = codes "need-at"
kind_text Write = codes "write"
kind_text Memory = codes "memory"
kind_text Read = codes "read"
kind_text Unproved = codes "unproved"
kind_text Incomplete = codes "incomplete"
