-- The lines of what `lint` says of routes and receivers, and its last line. (This project's own.)
use Rattle.std.specs.Prelude.{ℕ, List, [], ◌∷◌, ◌++◌, map, Option, Some, None, codes, slice_get}
use Rattle.std.specs.Prelude.{unwrap_or, ◌==◌, Bool, true, false, not, ◌&&◌, nat_lt, length}
use Rattle.std.specs.Prelude.{count_by, if◌then◌else◌}
use Rattle.std.specs.List.{flat_map, filter, enumerate_from, list_any}
use Rattle.am_universe.specs.Universe.{Label}
use Rattle.am_universe.specs.LabelSet.{label_pairs}
use Rattle.am_labels.specs.Matcher.{Matcher}
use Rattle.am_config.specs.ConfigFile.{Configuration, RouteTree, matchers_of}
use Rattle.am_config.specs.Path.{route_at, leads_through}
use Rattle.am_report_texts.specs.Line.{Line, Piece, ShownRoute, Words, Value, Word, Number, Text}
use Rattle.am_report_texts.specs.Line.{Path, Labels, Matchers, Routes}
use Rattle.am_report_texts.specs.Plural.{plural}
use Rattle.am_report_texts.specs.declared.lines.Field.TheVariants as field_is
use Rattle.am_report_texts.specs.declared.lines.Level.{Level}
use Rattle.am_report_texts.specs.declared.lines.Level.TheVariants as level_is
use Rattle.am_lint.specs.declared.arrival.Cause.{Cause}
use Rattle.am_lint.specs.declared.arrival.Cause.TheVariants as cause_is
use Rattle.am_lint.specs.declared.found.ReceiverFinding.{ReceiverFinding}
use Rattle.am_lint.specs.declared.found.ReceiverFinding.TheVariants as receiver_is
use Rattle.am_lint.specs.Findings.{Finding, Dead, Unusual, HandsOn, Undecided}
use Rattle.am_lint.specs.Places.{is_child_of}

-- A route with what is said of it.
pub record Said : Type 0 where
  pub path : List ℕ
  pub receiver : ℕ
  pub finding : Option Finding

-- ---- Routes.

-- The matchers of the route at a path.
abbrev pub matchers_if_any : Option RouteTree → List Matcher
matchers_if_any None = []
matchers_if_any (Some t) = matchers_of t

abbrev pub matchers_at : Configuration → List ℕ → List Matcher
matchers_at c path = matchers_if_any (route_at c.root path)

-- The word for what is said of a route.
abbrev pub kind_text : Finding → List ℕ
kind_text (Dead cause routes) = codes "dead"
kind_text (Unusual cause routes entry) = codes "unusual"
kind_text (HandsOn children) = codes "hands on"
kind_text (Undecided looks) = codes "undecided"

abbrev pub kind_if_any : Option Finding → List ℕ
kind_if_any None = []
kind_if_any (Some finding) = kind_text finding

-- How many of some routes stand below the route at a path; and the end of a line that says so.
-- Source: own choice.
-- Example: for `/2` these are `/2/0` and `/2/0/1`, if there are no others, and the end is
-- ` (and 2 routes below)`. For `/2/0/1` there is none, and no such end.
abbrev pub is_below : List ℕ → List ℕ → Bool
is_below path other = nat_lt (length path) (length other) && leads_through path other

abbrev pub count_below : List Said → List ℕ → ℕ
count_below routes path = count_by (λ said. is_below path said.path) routes

abbrev pub below_pieces : ℕ → List Piece
below_pieces count =
    if count == 0 then []
    else Words (codes " (and ") ∷ Value field_is.Below (Number count) ∷ Words (codes " route")
    ∷ Words (plural count) ∷ Words (codes " below)") ∷ []

-- Two routes are both dead, or both unusual. What is said of a route is said above it if this is
-- true of the route and its parent. No alert enters a route below one that no alert enters, so it
-- is enough to say this of the topmost.
-- Source: own choice.
-- Example: let `/2` be dead, and let it have the child `/2/0`, which is dead too. This is said
-- above `/2/0`, and not above `/2`.
abbrev pub are_both : Option Finding → Option Finding → Bool
are_both (Some (Dead cause routes)) (Some (Dead other others)) = true
are_both (Some (Unusual cause routes entry)) (Some (Unusual other others also)) = true
are_both finding other = false

abbrev pub is_said_above : List Said → Said → Bool
is_said_above routes said =
    list_any (λ above. is_child_of above.path said.path && are_both above.finding said.finding)
    routes

-- A route as a list of routes shows it, without and with the word for what is said of it.
-- Source: own choice.
-- Example: `/0 {team="db"}` and `/0 {team="db"} dead`.
abbrev pub shown_route : Configuration → List ℕ → ShownRoute
shown_route c path = record { path = path; matchers = matchers_at c path; kind = [] }

abbrev pub shown_said : Configuration → Said → ShownRoute
shown_said c said = record (shown_route c said.path) { kind = kind_if_any said.finding }

-- Why no alert enters a route, or ends there: which routes exclude each other, or take every alert
-- first. If no route is to blame, no alert is possible at all.
-- Source: own choice.
-- Example: `taken by /0 {team="db"}, /1 {team="web"}`.
abbrev pub cause_text : Cause → List ℕ
cause_text cause_is.Excluded = codes "excluded by"
cause_text cause_is.Taken = codes "taken by"

abbrev pub blame_pieces : Configuration → Cause → List (List ℕ) → List Piece
blame_pieces c cause routes =
    Value field_is.Reason (Word (cause_text cause)) ∷ Words (codes " ")
    ∷ Value field_is.Routes (Routes (map (shown_route c) routes)) ∷ []

abbrev pub reason_pieces : Configuration → Cause → List (List ℕ) → List Piece
reason_pieces c cause [] = Value field_is.Reason (Word (codes "no alert is possible")) ∷ []
reason_pieces c cause (route ∷ routes) = blame_pieces c cause (route ∷ routes)

-- The reason of what is said of a route. `u` has the labels of the label set that is shown.
abbrev pub why_pieces : List Label → Configuration → Finding → List Piece
why_pieces u c (Dead cause routes) = reason_pieces c cause routes
why_pieces u c (Unusual cause routes entry) =
    reason_pieces c cause routes ++ Words (codes "; entered by ")
    ∷ Value field_is.Labels (Labels (label_pairs u entry)) ∷ []
why_pieces u c (HandsOn children) = blame_pieces c cause_is.Taken children
why_pieces u c (Undecided looks) =
    Value field_is.Reason (Word (codes "it is not known whether an alert ends there")) ∷ []

-- The name of the receiver at a position.
abbrev pub receiver_name : Configuration → ℕ → List ℕ
receiver_name c receiver = unwrap_or (slice_get c.receivers receiver) []

-- A route that is dead, unusual or undecided is a finding, and one that hands on a note.
-- Source: own choice: hardly anyone means a route for unusual alerts alone, and what was not found
-- out may be a mistake.
-- Example: a route behind a sibling with `team=~".*"` is a finding.
abbrev pub level_of : Finding → Level
level_of (Dead cause routes) = level_is.Finding
level_of (Unusual cause routes entry) = level_is.Finding
level_of (HandsOn children) = level_is.Note
level_of (Undecided looks) = level_is.Finding

-- The end of the line of a dead or unusual route, which says how many routes stand below it.
abbrev pub end_pieces : List Said → List ℕ → Finding → List Piece
end_pieces routes path (Dead cause blamed) = below_pieces (count_below routes path)
end_pieces routes path (Unusual cause blamed entry) = below_pieces (count_below routes path)
end_pieces routes path (HandsOn children) = []
end_pieces routes path (Undecided looks) = []

-- The line of a route, among all routes.
-- Source: own choice.
-- Example: `/3/2 dead: "web-chat" {env!="prod"}: taken by /1 {env!="prod"}`.
abbrev pub finding_line :
    List Label → Configuration → List Said → List ℕ → ℕ → Finding → Line
finding_line u c routes path receiver finding = record {
  level = level_of finding;
  pieces = Value field_is.Path (Path path) ∷ Words (codes " ")
      ∷ Value field_is.Kind (Word (kind_text finding)) ∷ Words (codes ": ")
      ∷ Value field_is.Receiver (Text (receiver_name c receiver)) ∷ Words (codes " ")
      ∷ Value field_is.Matchers (Matchers (matchers_at c path)) ∷ Words (codes ": ")
      ∷ why_pieces u c finding ++ end_pieces routes path finding;
}

abbrev pub route_lines :
    List Label → Configuration → List Said → List ℕ → ℕ → Option Finding → List Line
route_lines u c routes path receiver None = []
route_lines u c routes path receiver (Some finding) =
    finding_line u c routes path receiver finding ∷ []

-- The lines of a route among all routes: none if nothing is said of it, or if it is said above.
abbrev pub said_lines : List Label → Configuration → List Said → Said → List Line
said_lines u c routes said =
    if is_said_above routes said then []
    else route_lines u c routes said.path said.receiver said.finding

-- ---- Receivers.

-- What is said of the routes that have the given receiver.
abbrev pub having : ℕ → List Said → List Said
having receiver routes = filter (λ said. said.receiver == receiver) routes

-- The words for a receiver that no route has.
abbrev pub none_words : List Said → List ℕ
none_words [] = codes "no route names it"
none_words (said ∷ others) = []

abbrev pub receiver_kind : ReceiverFinding → List ℕ
receiver_kind receiver_is.Unmatched = codes "unmatched"
receiver_kind receiver_is.Unusual = codes "unusual"
receiver_kind receiver_is.Undecided = codes "undecided"

-- A route hands on. The routes that have a receiver only group others: there is one, and each of
-- them hands on.
abbrev pub hands_on : Option Finding → Bool
hands_on None = false
hands_on (Some (Dead cause routes)) = false
hands_on (Some (Unusual cause routes entry)) = false
hands_on (Some (HandsOn children)) = true
hands_on (Some (Undecided looks)) = false

abbrev pub has_and_keeps : ℕ → Said → Bool
has_and_keeps receiver said = said.receiver == receiver && not (hands_on said.finding)

abbrev pub only_group : ℕ → List Said → Bool
only_group receiver routes =
    list_any (λ said. said.receiver == receiver) routes
    && not (list_any (has_and_keeps receiver) routes)

-- What is said of a receiver is a finding, but a note if its routes only group others.
-- Source: own choice: many people give such routes a receiver that is never meant.
-- Example: it is a note if the only route with the receiver has two children, one with
-- `team="db"` and one with `team!="db"`.
abbrev pub receiver_level : List Said → ℕ → Level
receiver_level routes receiver =
    if only_group receiver routes then level_is.Note else level_is.Finding

-- The line of a receiver, with the routes that have it.
-- Source: own choice.
-- Example: `receiver "late" unmatched: /2 {team="db"} dead`.
abbrev pub receiver_line : Configuration → List Said → ℕ → ReceiverFinding → Line
receiver_line c routes receiver finding = record {
  level = receiver_level routes receiver;
  pieces = Words (codes "receiver ")
      ∷ Value field_is.Receiver (Text (receiver_name c receiver)) ∷ Words (codes " ")
      ∷ Value field_is.Kind (Word (receiver_kind finding)) ∷ Words (codes ": ")
      ∷ Words (none_words (having receiver routes))
      ∷ Value field_is.Routes (Routes (map (shown_said c) (having receiver routes))) ∷ [];
}

abbrev pub receiver_lines :
    Configuration → List Said → ℕ × Option ReceiverFinding → List Line
receiver_lines c routes (receiver, None) = []
receiver_lines c routes (receiver, Some finding) =
    receiver_line c routes receiver finding ∷ []

-- The lines of routes, followed by those of receivers.
-- Source: own choice.
-- Example: if nothing is said of any route or receiver, there are none. If the last of three routes
-- is dead and has a child, which is dead too, the routes have one line.
abbrev pub report_lines :
    List Label → Configuration → List Said → List (Option ReceiverFinding) → List Line
report_lines u c routes receivers =
    flat_map (said_lines u c routes) routes
    ++ flat_map (receiver_lines c routes) (enumerate_from 0 receivers)

-- ---- How many there are.

-- The last line of a report, with the numbers of findings and notes.
-- Source: own choice.
-- Example: `# 2 findings, 1 note`.
abbrev pub count_pieces : ℕ → ℕ → List Piece
count_pieces findings notes =
    Words (codes "# ") ∷ Value field_is.Findings (Number findings) ∷ Words (codes " finding")
    ∷ Words (plural findings) ∷ Words (codes ", ") ∷ Value field_is.Notes (Number notes)
    ∷ Words (codes " note") ∷ Words (plural notes) ∷ []
