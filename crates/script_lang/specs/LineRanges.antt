-- The ranges of what lines say.
use Rattle.std.specs.Prelude.{ℕ, ◌≤◌, ⊤}
use Rattle.script_lang.specs.declared.line.Line.{Line}
use Rattle.script_lang.specs.declared.line.Line.TheVariants.{Blank, Node, Client, Move, Balancer, Scan}
use Rattle.script_lang.specs.declared.line.NodeLine.{NodeLine}
use Rattle.script_lang.specs.declared.line.NodeLine.TheVariants.{Fill}
use Rattle.script_lang.specs.declared.line.ClientLine.{ClientLine}
use Rattle.script_lang.specs.declared.line.ClientLine.TheVariants.{Open, Grow, Push, Finish, Drop, Write, Append, Read, Delete}
use Rattle.script_lang.specs.declared.line.MoveLine.{MoveLine}
use Rattle.script_lang.specs.declared.line.MoveLine.TheVariants.{Begin, Copy, Seal, Publish, Drop as DropMove, Sweep}
use Rattle.script_lang.specs.declared.line.BalancerLine.{BalancerLine}
use Rattle.script_lang.specs.declared.line.BalancerLine.TheVariants.{Balance}
use Rattle.script_lang.specs.declared.line.ScanLine.{ScanLine}
use Rattle.script_lang.specs.declared.line.ScanLine.TheVariants.{DirList, DirDiff, DirFix, VolLoad, VolNext, VolCheck, VolReport, Cursor}
use Rattle.script_lang.specs.Number.{IsId}

-- the number of a volume
abbrev pub IsVolumeNumber : ℕ → Type 0
IsVolumeNumber n = (1 ≤ n) × (n ≤ 64)

-- the numbers of a line about the whole node are in their ranges
abbrev pub IsNodeLineInRange : NodeLine → Type 0
IsNodeLineInRange (Fill count seed) = count ≤ 1000000
IsNodeLineInRange line = ⊤

-- those of a client's line about a block
abbrev pub IsClientLineInRange : ClientLine → Type 0
IsClientLineInRange (Open id stamp need) = IsId id × IsId stamp
IsClientLineInRange (Grow id stamp more) = IsId id × IsId stamp
IsClientLineInRange (Push id hex) = IsId id
IsClientLineInRange (Finish id) = IsId id
IsClientLineInRange (Drop id) = IsId id
IsClientLineInRange (Write id stamp hex) = IsId id × IsId stamp
IsClientLineInRange (Append id stamp hex) = IsId id × IsId stamp
IsClientLineInRange (Read id) = IsId id
IsClientLineInRange (Delete id) = IsId id

-- those of a line about a move
abbrev pub IsMoveLineInRange : MoveLine → Type 0
IsMoveLineInRange (Begin id vol) = IsId id × IsVolumeNumber vol
IsMoveLineInRange (Copy id n) = IsId id
IsMoveLineInRange (Seal id) = IsId id
IsMoveLineInRange (Publish id) = IsId id
IsMoveLineInRange (DropMove id) = IsId id
IsMoveLineInRange Sweep = ⊤

-- those of a line about the disk balancer's plan
abbrev pub IsBalancerLineInRange : BalancerLine → Type 0
IsBalancerLineInRange (Balance t) = t ≤ 100
IsBalancerLineInRange line = ⊤

-- those of a line about the scanners
abbrev pub IsScanLineInRange : ScanLine → Type 0
IsScanLineInRange (DirList vol d1 d2) = IsVolumeNumber vol × (d1 ≤ 31) × (d2 ≤ 31)
IsScanLineInRange DirDiff = ⊤
IsScanLineInRange DirFix = ⊤
IsScanLineInRange (VolLoad vol) = IsVolumeNumber vol
IsScanLineInRange (VolNext vol) = IsVolumeNumber vol
IsScanLineInRange (VolCheck vol) = IsVolumeNumber vol
IsScanLineInRange (VolReport vol) = IsVolumeNumber vol
IsScanLineInRange (Cursor vol) = IsVolumeNumber vol

-- the numbers of a line are in their ranges
abbrev pub IsLineInRange : Line → Type 0
IsLineInRange Blank = ⊤
IsLineInRange (Node line) = IsNodeLineInRange line
IsLineInRange (Client line) = IsClientLineInRange line
IsLineInRange (Move line) = IsMoveLineInRange line
IsLineInRange (Balancer line) = IsBalancerLineInRange line
IsLineInRange (Scan line) = IsScanLineInRange line
