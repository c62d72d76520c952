-- Lemmas on what is unread: the bytes pending in a reader, and then those that the source has left.
use Rattle.std.proofs.Common.{◌≡◌, ℕ, ◌+◌, ◌-◌, ◌≤◌, List, [], ◌++◌, length, take, drop, refl, ap, sym, ◌∙◌, arith, Option, Some, None, subst, IfSome}
use Rattle.std.proofs.lemmas.List.{drop-take, drop-drop, length-take, length-drop}
use Rattle.std.specs.List.{slice_range}
use Rattle.std.specs.Io.KnownBytes.{Consumes, IsAtEnd, Keeps}
use Rattle.line_io.specs.Lines.{OfUnread}

-- what is left of a range behind its first n elements
pub range_rest : (xs : List ℕ) (a b n : ℕ) → a + n ≤ b → slice_range xs (a + n) b ≡ drop n (slice_range xs a b)
range_rest xs a b n inside =
    let m : n + (b - (a + n)) ≡ b - a = omega arith in
    let e = drop-take n (b - (a + n)) (drop a xs) in
    ap (take (b - (a + n))) (sym (drop-drop n a xs)) ∙ sym e ∙ ap (λ k. drop n (take k (drop a xs))) m

-- with no call nothing changes
pub unread_same : (pending : List ℕ) (left : Option (List ℕ)) → OfUnread (λ unread rest. unread ≡ rest) pending left pending left
unread_same pending None = tt
unread_same pending (Some left) = refl

-- a read puts the bytes that it consumes where nothing was pending
pub unread_read : (pending : List ℕ) (left left' : Option (List ℕ)) (piece : List ℕ) → pending ≡ [] → Consumes left left' piece → OfUnread (λ unread rest. unread ≡ rest) pending left piece left'
unread_read pending None left' piece none h = tt
unread_read pending (Some left) None piece none h = absurd h
unread_read pending (Some left) (Some left') piece none h = ap (λ p. p ++ left) none ∙ h

-- a step that keeps what is unread, and then one on what is pending
pub unread_step : (P Q : List ℕ → List ℕ → Type 0) (first pending pending' : List ℕ) (left left' left'' : Option (List ℕ)) (pending'' : List ℕ) → OfUnread P first left pending left' → OfUnread (λ unread rest. unread ≡ rest) pending left' pending' left'' → ((unread rest : List ℕ) → P unread (pending' ++ rest) → Q unread (pending'' ++ rest)) → OfUnread Q first left pending'' left''
unread_step P Q first pending pending' None left' left'' pending'' told same step = tt
unread_step P Q first pending pending' (Some left) None left'' pending'' told same step = absurd told
unread_step P Q first pending pending' (Some left) (Some left') None pending'' told same step = absurd same
unread_step P Q first pending pending' (Some left) (Some left') (Some left'') pending'' told same step = step (first ++ left) left'' (subst (P (first ++ left)) same told)

-- a read that failed, where nothing was pending
pub unread_failed : (pending pending' : List ℕ) (left left' : Option (List ℕ)) → pending ≡ [] → pending' ≡ [] → Keeps left left' → OfUnread (λ unread rest. unread ≡ rest) pending left pending' left'
unread_failed pending pending' None left' none none' h = tt
unread_failed pending pending' (Some left) None none none' h = absurd h
unread_failed pending pending' (Some left) (Some left') none none' h = ap (λ p. p ++ left) (none ∙ sym none') ∙ ap (λ l. pending' ++ l) (sym h)

-- a step that keeps what is unread, behind a text that was handed out
pub unread_kept : (text first pending pending' : List ℕ) (left left' left'' : Option (List ℕ)) → OfUnread (λ unread rest. unread ≡ text ++ rest) first left pending left' → OfUnread (λ unread rest. unread ≡ rest) pending left' pending' left'' → OfUnread (λ unread rest. unread ≡ text ++ rest) first left pending' left''
unread_kept text first pending pending' left left' left'' told same = unread_step (λ unread rest. unread ≡ text ++ rest) (λ unread rest. unread ≡ text ++ rest) first pending pending' left left' left'' pending' told same (λ unread rest e. e)

-- where n elements are within a range
pub range_holds : (xs : List ℕ) (a b n : ℕ) → a ≤ b → b ≤ length xs → n ≤ length (slice_range xs a b) → a + n ≤ b
range_holds xs a b n ordered inside h = omega (arith, length-take {A = ℕ}, length-drop {A = ℕ})

-- a step at the end of the source
pub unread_end : (P Q : List ℕ → List ℕ → Type 0) (first pending pending' : List ℕ) (left left' left'' : Option (List ℕ)) → OfUnread P first left pending left' → OfUnread (λ unread rest. unread ≡ rest) pending left' pending' left'' → pending' ≡ [] → IsAtEnd left'' → ((unread : List ℕ) → P unread [] → Q unread []) → OfUnread Q first left pending' left''
unread_end P Q first pending pending' None left' left'' told same none at_end step = tt
unread_end P Q first pending pending' (Some left) None left'' told same none at_end step = absurd told
unread_end P Q first pending pending' (Some left) (Some left') None told same none at_end step = absurd same
unread_end P Q first pending pending' (Some left) (Some left') (Some left'') told same none at_end step =
    let e : pending' ++ left'' ≡ [] = ap (λ p. p ++ left'') none ∙ at_end in
    subst (Q (first ++ left)) (sym e) (step (first ++ left) (subst (P (first ++ left)) (same ∙ e) told))

-- what the first unread bytes show, where the source tells
pub unread_shows : (P : List ℕ → List ℕ → Type 0) (Q : List ℕ → Type 0) (first pending pending' : List ℕ) (left left' left'' : Option (List ℕ)) → OfUnread P first left pending left' → OfUnread (λ unread rest. unread ≡ rest) pending left' pending' left'' → ((unread rest : List ℕ) → P unread (pending' ++ rest) → Q unread) → IfSome left (λ l. Q (first ++ l))
unread_shows P Q first pending pending' None left' left'' told same step = tt
unread_shows P Q first pending pending' (Some left) None left'' told same step = absurd told
unread_shows P Q first pending pending' (Some left) (Some left') None told same step = absurd same
unread_shows P Q first pending pending' (Some left) (Some left') (Some left'') told same step = step (first ++ left) left'' (subst (P (first ++ left)) same told)
