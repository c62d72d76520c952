-- The first words of the lines of a script.
use Rattle.std.specs.Prelude.{ℕ, List, [], ◌∷◌, ◌++◌, Option, codes}
use Rattle.script_lang.specs.Table.{meaning_of}
use Rattle.script_lang.specs.declared.verb.Verb.{Verb}
use Rattle.script_lang.specs.declared.verb.Verb.TheVariants.{Node, Client, Move, Balancer, Scan}
use Rattle.script_lang.specs.declared.verb.NodeVerb.TheVariants.{At, Use, Reopen, Report, Fill}
use Rattle.script_lang.specs.declared.verb.ClientVerb.TheVariants.{Open, Grow, Push, Finish, Drop, Write, Append, Read, Delete}
use Rattle.script_lang.specs.declared.verb.MoveVerb.TheVariants.{Begin, Copy, Seal, Publish, Drop as DropMove, Sweep}
use Rattle.script_lang.specs.declared.verb.BalancerVerb.TheVariants.{Balance, Execute, Query, Cancel, Mover}
use Rattle.script_lang.specs.declared.verb.ScanVerb.TheVariants.{DirList, DirDiff, DirFix, VolLoad, VolNext, VolCheck, VolReport, Cursor}

-- a word that a first word is written as
abbrev pub Row : Type 0
Row = List ℕ × Verb

-- of lines about the whole node
abbrev pub node_verbs : List Row
node_verbs =
    (codes "at", Node At) ∷ (codes "use", Node Use) ∷ (codes "reopen", Node Reopen) ∷ (codes "report", Node Report) ∷ (codes "fill", Node Fill) ∷ []

-- of a client's lines about a block
abbrev pub client_verbs : List Row
client_verbs =
    (codes "open", Client Open) ∷ (codes "grow", Client Grow) ∷ (codes "push", Client Push) ∷ (codes "finish", Client Finish) ∷ (codes "drop", Client Drop)
    ∷ (codes "write", Client Write) ∷ (codes "append", Client Append) ∷ (codes "read", Client Read) ∷ (codes "delete", Client Delete) ∷ []

-- of lines about the move of a replica
abbrev pub move_verbs : List Row
move_verbs =
    (codes "mbegin", Move Begin) ∷ (codes "mcopy", Move Copy) ∷ (codes "mseal", Move Seal) ∷ (codes "mpublish", Move Publish) ∷ (codes "mdrop", Move DropMove)
    ∷ (codes "sweep", Move Sweep) ∷ []

-- of lines about the disk balancer's plan
abbrev pub balancer_verbs : List Row
balancer_verbs =
    (codes "balance", Balancer Balance) ∷ (codes "execute", Balancer Execute) ∷ (codes "query", Balancer Query) ∷ (codes "cancel", Balancer Cancel)
    ∷ (codes "mover", Balancer Mover) ∷ []

-- of lines about the scanners
abbrev pub scan_verbs : List Row
scan_verbs =
    (codes "dirlist", Scan DirList) ∷ (codes "dirdiff", Scan DirDiff) ∷ (codes "dirfix", Scan DirFix) ∷ (codes "volload", Scan VolLoad)
    ∷ (codes "volnext", Scan VolNext) ∷ (codes "volcheck", Scan VolCheck) ∷ (codes "volreport", Scan VolReport) ∷ (codes "cursor", Scan Cursor) ∷ []

-- the first word that a word is
unfoldable pub verb_of : List ℕ → Option Verb
verb_of word = meaning_of (node_verbs ++ client_verbs ++ move_verbs ++ balancer_verbs ++ scan_verbs) word
