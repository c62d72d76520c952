-- How a line takes the reading of an input on.
use Rattle.std.proofs.Common.{◌≡◌, ◌∙◌, sym, ap, subst, ℕ, ◌+◌, ◌≤◌, List, [], ◌++◌, length, refl, arith, Option, Some, None, IfSome, Result, Err}
use Rattle.line_io.specs.Lines.{terminated_lines, TakesLine, FirstPassesLimit, OfUnread}
use Rattle.line_io.specs.declared.lines.ReadFault.{ReadFault}
use Rattle.line_io.specs.declared.lines.ReadFault.TheVariants.{Source, Limit as LineLimit, Memory}
use Rattle.disk_model.specs.Causes.{Rose}
use Rattle.run_end.specs.declared.ending.Ending.{Ending}
use Rattle.run_end.specs.declared.ending.Ending.TheVariants.{SourceFault, NoMemory, Outside}
use Rattle.run_end.specs.Ending.{ending_at}
use Rattle.plan_tool.specs.declared.row.Row.{Row}
use Rattle.plan_tool.specs.Rows.{AreRows, Input, AtEnd, AtOutside, AtLimit, input_of, input_from, input_by}
use Rattle.plan_tool.specs.Session.{AddsLine, LineStops, StopsWith, IsOfRows}

-- two facts of what is unread, one after another
unread_chain : (P Q R : List ℕ → List ℕ → Type 0) (pending pending' : List ℕ) (input left left' : Option (List ℕ)) → OfUnread P [] input pending left
    → OfUnread Q pending left pending' left' → ((u m r : List ℕ) → P u m → Q m r → R u r) → OfUnread R [] input pending' left'
unread_chain P Q R pending pending' None left left' h k f = tt
unread_chain P Q R pending pending' (Some input) None left' h k f = absurd h
unread_chain P Q R pending pending' (Some input) (Some left) None h k f = absurd k
unread_chain P Q R pending pending' (Some input) (Some left) (Some left') h k f = f input (pending ++ left) (pending' ++ left') h k

-- what two such facts show of the input
unread_both : (P Q : List ℕ → List ℕ → Type 0) (R : List ℕ → Type 0) (pending pending' : List ℕ) (input left left' : Option (List ℕ)) → OfUnread P [] input pending left
    → OfUnread Q pending left pending' left' → ((u m r : List ℕ) → P u m → Q m r → R u) → IfSome input R
unread_both P Q R pending pending' None left left' h k f = tt
unread_both P Q R pending pending' (Some input) None left' h k f = absurd h
unread_both P Q R pending pending' (Some input) (Some left) None h k f = absurd k
unread_both P Q R pending pending' (Some input) (Some left) (Some left') h k f = f input (pending ++ left) (pending' ++ left') h k

-- what one shows, with another of what was unread then
unread_one : (P : List ℕ → List ℕ → Type 0) (Q R : List ℕ → Type 0) (pending : List ℕ) (input left : Option (List ℕ)) → OfUnread P [] input pending left
    → IfSome left (λ l. Q (pending ++ l)) → ((u m : List ℕ) → P u m → Q m → R u) → IfSome input R
unread_one P Q R pending None left h k f = tt
unread_one P Q R pending (Some input) None h k f = absurd h
unread_one P Q R pending (Some input) (Some left) h k f = f input (pending ++ left) h k

-- the input of what is unread, by its first line
input_by_line : (number count count' : ℕ) (rows : List Row) (unread text rest : List ℕ) → TakesLine count unread text count' rest
    → input_from number count rows (terminated_lines unread) ≡ input_by (number + 1) rows text (λ more. input_from (number + 1) count' more (terminated_lines rest))
unfolding input_from
input_by_line number count count' rows unread text rest t =
    ap (input_from number count rows) t.first ∙ rw t.within
    (ap (λ p. input_by (number + 1) rows p (λ more. input_from (number + 1) (count + length t.line) more (terminated_lines rest))) (sym t.text_is)
    ∙ ap (λ k. input_by (number + 1) rows text (λ more. input_from (number + 1) k more (terminated_lines rest))) (sym t.counted))

input_at_limit : (number count : ℕ) (rows : List Row) (unread : List ℕ) → FirstPassesLimit count unread
    → input_from number count rows (terminated_lines unread) ≡ record { rows = rows; stop = AtLimit (number + 1) }
unfolding input_from
input_at_limit number count rows unread t = ap (input_from number count rows) t.first ∙ rw t.passes refl

input_at_end : (number count : ℕ) (rows : List Row) (unread : List ℕ) → unread ≡ []
    → input_from number count rows (terminated_lines unread) ≡ record { rows = rows; stop = AtEnd }
unfolding input_from
input_at_end number count rows unread e = ap (λ p. input_from number count rows (terminated_lines p)) e

abbrev pub Read : Option (List ℕ) → Option (List ℕ) → List ℕ → ℕ → ℕ → List Row → Type 0
Read input left pending number count rows = OfUnread (λ unread rest. input_of unread ≡ input_from number count rows (terminated_lines rest)) [] input pending left

-- nothing was read yet
pub read_nothing : (input : Option (List ℕ)) (pending : List ℕ) (count : ℕ) (rows : List Row) → pending ≡ [] → count ≡ 0 → rows ≡ [] → Read input input pending 0 count rows
read_nothing None pending count rows none zero_count no_rows = tt
read_nothing (Some bytes) pending count rows none zero_count no_rows =
    ap (λ (p : List ℕ). input_from 0 0 [] (terminated_lines (p ++ bytes))) (sym none)
    ∙ ap (λ (k : ℕ). input_from 0 k [] (terminated_lines (pending ++ bytes))) (sym zero_count)
    ∙ ap (λ (r : List Row). input_from 0 count r (terminated_lines (pending ++ bytes))) (sym no_rows)

module _ (input left : Option (List ℕ)) (pending : List ℕ) (number count : ℕ) (rows : List Row) (read : Read input left pending number count rows) where
  -- no line is left
  pub read_all : (left' : Option (List ℕ)) (pending' : List ℕ) → OfUnread (λ unread rest. (unread ≡ []) × (rest ≡ [])) pending left pending' left'
      → IfSome input (λ bytes. input_of bytes ≡ record { rows = rows; stop = AtEnd })
  read_all left' pending' h =
      unread_both (λ unread rest. input_of unread ≡ input_from number count rows (terminated_lines rest)) (λ unread rest. (unread ≡ []) × (rest ≡ []))
      (λ bytes. input_of bytes ≡ record { rows = rows; stop = AtEnd }) pending pending' input left left' read h
      (λ u m r e k. e ∙ input_at_end number count rows m k.0)

  -- a line can't be read
  pub read_fault : (fault : ReadFault) (ending : Ending) → ending ≡ ending_at fault (number + 1) → (fault ≡ LineLimit → IfSome left (λ l. FirstPassesLimit count (pending ++ l)))
      → IfSome input (λ bytes. StopsWith (input_of bytes).stop ending)
  read_fault Source ending is h = subst (λ (e : Ending). IfSome input (λ bytes. StopsWith (input_of bytes).stop e)) (sym is) (always input)
    where
      always : (i : Option (List ℕ)) → IfSome i (λ bytes. Unit {0})
      always None = tt
      always (Some bytes) = tt
  read_fault Memory ending is h = subst (λ (e : Ending). IfSome input (λ bytes. StopsWith (input_of bytes).stop e)) (sym is) (always input)
    where
      always : (i : Option (List ℕ)) → IfSome i (λ bytes. Unit {0})
      always None = tt
      always (Some bytes) = tt
  read_fault LineLimit ending is h = subst (λ (e : Ending). IfSome input (λ bytes. StopsWith (input_of bytes).stop e)) (sym is)
      (unread_one (λ unread rest. input_of unread ≡ input_from number count rows (terminated_lines rest)) (FirstPassesLimit count)
      (λ bytes. (input_of bytes).stop ≡ AtLimit (number + 1)) pending input left read (h refl)
      (λ u m e k. ap (λ (i : Input). i.stop) (e ∙ input_at_limit number count rows m k)))

  module _ (left' : Option (List ℕ)) (pending' : List ℕ) (count' : ℕ) (text shown : List ℕ) (same : shown ≡ text)
      (t : OfUnread (λ unread rest. TakesLine count unread text count' rest) pending left pending' left') where
    -- a line that adds to the rows
    pub read_line : (rows' : List Row) → AddsLine rows shown rows' → Read input left' pending' (number + 1) count' rows'
    read_line rows' adds =
        unread_chain (λ unread rest. input_of unread ≡ input_from number count rows (terminated_lines rest)) (λ unread rest. TakesLine count unread text count' rest)
        (λ unread rest. input_of unread ≡ input_from (number + 1) count' rows' (terminated_lines rest)) pending pending' input left left' read t
        (λ u m r e k. e ∙ input_by_line number count count' rows m text r k
        ∙ ap (λ (p : List ℕ). input_by (number + 1) rows p (λ more. input_from (number + 1) count' more (terminated_lines r))) (sym same)
        ∙ adds (number + 1) (λ more. input_from (number + 1) count' more (terminated_lines r)))

    -- one that isn't of the form
    pub read_outside : (ending : Ending) → LineStops rows (number + 1) shown ending → IfSome input (λ bytes. StopsWith (input_of bytes).stop ending)
    read_outside NoMemory stops = always input
      where
        always : (i : Option (List ℕ)) → IfSome i (λ bytes. Unit {0})
        always None = tt
        always (Some bytes) = tt
    read_outside (Outside line column) stops =
        unread_both (λ unread rest. input_of unread ≡ input_from number count rows (terminated_lines rest)) (λ unread rest. TakesLine count unread text count' rest)
        (λ bytes. (input_of bytes).stop ≡ AtOutside line column) pending pending' input left left' read t
        (λ u m r e k. ap (λ (i : Input). i.stop) (e ∙ input_by_line number count count' rows m text r k
        ∙ ap (λ (p : List ℕ). input_by (number + 1) rows p (λ more. input_from (number + 1) count' more (terminated_lines r))) (sym same)
        ∙ stops (λ more. input_from (number + 1) count' more (terminated_lines r))))
    read_outside ending stops = absurd stops

-- which endings come of a line
pub fault_of_rows : (fault : ReadFault) (line : ℕ) (ending : Ending) → ending ≡ ending_at fault line → IsOfRows ending
fault_of_rows Source line ending e = subst IsOfRows (sym e) tt
fault_of_rows LineLimit line ending e = subst IsOfRows (sym e) tt
fault_of_rows Memory line ending e = subst IsOfRows (sym e) tt

pub line_of_rows : (rows : List Row) (number : ℕ) (text : List ℕ) (ending : Ending) → LineStops rows number text ending → IsOfRows ending
line_of_rows rows number text NoMemory h = tt
line_of_rows rows number text (Outside line column) h = tt
line_of_rows rows number text ending h = absurd h

pub line_not_source : (rows : List Row) (number : ℕ) (text : List ℕ) (ending : Ending) → LineStops rows number text ending → ending ≡ SourceFault → ⊥
line_not_source rows number text ending h e = subst (LineStops rows number text) e h

-- a source's fault comes of no line, and only of the source
pub from_source : (T : Type 0) (fault : ReadFault) (line : ℕ) (ending : Ending) → ending ≡ ending_at fault line
    → let answer : Result T Ending = Err ending in answer ≡ Err SourceFault → fault ≡ Source
from_source T Source line ending is e = refl
from_source T LineLimit line ending is e = cc
from_source T Memory line ending is e = cc

pub rose_from : (first before now : ℕ) → first ≤ before → Rose before now → Rose first now
rose_from first before now h r = omega arith

-- no row is out of the limits where there is none
pub no_rows : (rows : List Row) → rows ≡ [] → AreRows rows
no_rows rows none = record { few = omega (arith, ap (length {A = Row}) none); each = λ k d h. absurd (omega (arith, ap (length {A = Row}) none)) }
