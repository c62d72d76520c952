-- Lemmas on the writing of a piece.
use Rattle.std.proofs.Common.{◌≡◌, ℕ, suc, ◌+◌, ◌≤◌, List, [], ◌∷◌, ◌++◌, length, take, drop, ap, sym, subst, ◌∙◌, arith, Option, Some, None}
use Rattle.std.proofs.lemmas.List.{append_assoc, append-nil, take-append-drop, take_all, take-take, drop-take}
use Rattle.std.specs.Io.KnownBytes.{Appends, Keeps}
use Rattle.line_io.specs.Written.{AppendsFront}

take_sum : (bytes : List ℕ) (i n : ℕ) → take i bytes ++ take n (drop i bytes) ≡ take (i + n) bytes
take_sum bytes i n =
    ap (λ p. take i bytes ++ p) (sym (drop-take i n bytes)) ∙ ap (λ p. p ++ drop i (take (i + n) bytes)) (sym (take-take i (i + n) bytes (omega arith)))
    ∙ take-append-drop i (take (i + n) bytes)

-- a piece that begins with nothing taken
pub appends_none : (old : Option (List ℕ)) (bytes : List ℕ) → Appends old old (take 0 bytes)
appends_none None bytes = tt
appends_none (Some xs) bytes = sym (append-nil xs)

-- n bytes more of it
pub appends_more : (old mid new : Option (List ℕ)) (bytes : List ℕ) (i n : ℕ) (rest : List ℕ) → rest ≡ drop i bytes → Appends old mid (take i bytes) → Appends mid new (take n rest) → Appends old new (take (i + n) bytes)
appends_more None mid new bytes i n rest e h k = tt
appends_more (Some xs) None new bytes i n rest e h k = absurd h
appends_more (Some xs) (Some ys) None bytes i n rest e h k = absurd k
appends_more (Some xs) (Some ys) (Some zs) bytes i n rest e h k =
    k ∙ ap (λ p. p ++ take n rest) h ∙ append_assoc xs (take i bytes) (take n rest) ∙ ap (λ p. xs ++ (take i bytes ++ take n p)) e ∙ ap (λ p. xs ++ p) (take_sum bytes i n)

-- a failed write takes no more
pub appends_kept : (old mid new : Option (List ℕ)) (bytes : List ℕ) → Appends old mid bytes → Keeps mid new → Appends old new bytes
appends_kept None mid new bytes h k = tt
appends_kept (Some xs) None new bytes h k = absurd h
appends_kept (Some xs) (Some ys) None bytes h k = absurd k
appends_kept (Some xs) (Some ys) (Some zs) bytes h k = k ∙ h

-- all of it
pub appends_all : (old new : Option (List ℕ)) (bytes : List ℕ) (i : ℕ) → length bytes ≤ i → Appends old new (take i bytes) → Appends old new bytes
appends_all None new bytes i all h = tt
appends_all (Some xs) None bytes i all h = absurd h
appends_all (Some xs) (Some ys) bytes i all h = h ∙ ap (λ p. xs ++ p) (take_all i bytes all)

-- where nothing is written
pub appends_nothing : (taken : Option (List ℕ)) → Appends taken taken []
appends_nothing None = tt
appends_nothing (Some xs) = sym (append-nil xs)

-- one text after another
pub appends_append : (old mid new : Option (List ℕ)) (xs ys : List ℕ) → Appends old mid xs → Appends mid new ys → Appends old new (xs ++ ys)
appends_append None mid new xs ys h k = tt
appends_append (Some bs) None new xs ys h k = absurd h
appends_append (Some bs) (Some cs) None xs ys h k = absurd k
appends_append (Some bs) (Some cs) (Some ds) xs ys h k = k ∙ ap (λ p. p ++ ys) h ∙ append_assoc bs xs ys

take_behind : (xs ys : List ℕ) (n : ℕ) → take (length xs + n) (xs ++ ys) ≡ xs ++ take n ys
take_behind [] ys n = ap (λ k. take k ys) (let e : 0 + n ≡ n = omega arith in e)
take_behind (x ∷ xs) ys n = ap (λ k. take k (x ∷ xs ++ ys)) (let e : length (x ∷ xs) + n ≡ suc (length xs + n) = omega arith in e) ∙ ap (λ p. x ∷ p) (take_behind xs ys n)

-- and a front of the second
pub front_then : (old mid new : Option (List ℕ)) (xs ys : List ℕ) → Appends old mid xs → AppendsFront mid new ys → AppendsFront old new (xs ++ ys)
front_then old mid new xs ys h k = (length xs + k.0, subst (Appends old new) (sym (take_behind xs ys k.0)) (appends_append old mid new xs (take k.0 ys) h k.1))

-- a front stays one where nothing more is to be written
pub front_stays : (old new : Option (List ℕ)) (xs : List ℕ) → AppendsFront old new xs → AppendsFront old new (xs ++ [])
front_stays old new xs h = (h.0, subst (Appends old new) (ap (take h.0) (sym (append-nil xs))) h.1)
