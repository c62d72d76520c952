-- What the lines of a script of jobs and clients may be.
use Rattle.std.specs.Prelude.{◌≤◌, ⊤}
use Rattle.script_lang.specs.declared.line.Line.{Line}
use Rattle.script_lang.specs.declared.line.Line.TheVariants.{Node as NodeLine, Client as ClientLine, Balancer as BalancerLine}
use Rattle.script_lang.specs.declared.line.NodeLine.TheVariants.{Use}
use Rattle.script_lang.specs.declared.line.ClientLine.TheVariants.{Write, Append, Read, Delete}
use Rattle.script_lang.specs.declared.line.BalancerLine.TheVariants.{Query, Cancel}
use Rattle.script_lang.specs.declared.serve.ServeLine.{ServeLine}
use Rattle.script_lang.specs.declared.serve.ServeLine.TheVariants.{Blank, End, Report, Fill, Balance, Execute, DirScan, VolScan, Client}
use Rattle.script_lang.specs.LineRanges.{IsLineInRange, IsVolumeNumber}

-- a line of a client
abbrev pub IsClientLine : Line → Type 0
IsClientLine (NodeLine (Use pool)) = ⊤
IsClientLine (ClientLine (Write id stamp hex)) = ⊤
IsClientLine (ClientLine (Append id stamp hex)) = ⊤
IsClientLine (ClientLine (Read id)) = ⊤
IsClientLine (ClientLine (Delete id)) = ⊤
IsClientLine (BalancerLine Query) = ⊤
IsClientLine (BalancerLine (Cancel id)) = ⊤
IsClientLine line = ⊥

-- the numbers of a line are in their ranges, and the lines of the client are those that it may give
abbrev pub IsServeLineInRange : ServeLine → Type 0
IsServeLineInRange Blank = ⊤
IsServeLineInRange End = ⊤
IsServeLineInRange Report = ⊤
IsServeLineInRange (Fill count seed) = count ≤ 1000000
IsServeLineInRange (Balance t) = t ≤ 100
IsServeLineInRange (Execute id version force json) = ⊤
IsServeLineInRange DirScan = ⊤
IsServeLineInRange (VolScan vol) = IsVolumeNumber vol
IsServeLineInRange (Client line) = IsClientLine line × IsLineInRange line
