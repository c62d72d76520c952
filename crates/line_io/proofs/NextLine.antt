-- What a turn of the reading of a line shows.
use Rattle.std.proofs.Common.{◌≡◌, ℕ, ◌+◌, ◌<◌, ◌≤◌, ◌==◌, nat_lt, ◌||◌, ◌⊎◌, inl, inr, Bool, true, false, List, [], ◌∷◌, ◌++◌, length, take, drop, get_or, ap, sym, ◌∙◌, arith, Option, subst, IfSome, Result, Err, Ok, not}
use Rattle.std.proofs.lemmas.List.{append_assoc, append-nil, length-append, length_push, take-append-drop, drop_more, length-take-le, take_all}
use Rattle.std.proofs.lemmas.Bool.Decides.{nat_tests}
use Rattle.std.specs.Io.KnownBytes.{IsAtEnd}
use Rattle.line_io.specs.declared.TheConstants.{LINE_LIMIT, INPUT_LIMIT}
use Rattle.line_io.specs.Lines.{OfUnread, HasNoLineFeed, terminated_lines, line_text, passes_limit, TakesLine, FirstPassesLimit}
use Rattle.line_io.proofs.LineLemmas.{ended_line, last_line, begun_line, line_text-append, HasNoLineFeed-append}
use Rattle.line_io.proofs.Unread.{unread_step, unread_end, unread_shows}

either_passes : (a b c d : ℕ) → (a < b) ⊎ (c < d) → (nat_lt a b || nat_lt c d) ≡ true
either_passes a b c d h = grind (arith, nat_tests)

neither_passes : (a b c d : ℕ) → b ≤ a → d ≤ c → (nat_lt a b || nat_lt c d) ≡ false
neither_passes a b c d h k = grind (arith, nat_tests)

-- a line within the limits
within_limits : (before : ℕ) (line text : List ℕ) → line_text line ≡ text → length text ≤ LINE_LIMIT → before + length line ≤ INPUT_LIMIT → passes_limit before line ≡ false
within_limits before line text e short in_limit =
    let short' : length (line_text line) ≤ LINE_LIMIT = rw e short in
    neither_passes LINE_LIMIT (length (line_text line)) INPUT_LIMIT (before + length line) short' in_limit

-- a text that a line feed ends
pub takes_ended : (before after : ℕ) (text unread rest : List ℕ) → HasNoLineFeed text → length text ≤ LINE_LIMIT → after ≤ INPUT_LIMIT → after ≡ before + length text + 1 → unread ≡ text ++ 10 ∷ rest → TakesLine before unread text after rest
takes_ended before after text unread rest h short in_limit counted e =
    let is : line_text (text ++ 10 ∷ []) ≡ text = line_text-append text (10 ∷ []) h ∙ append-nil text in
    let long : length (text ++ 10 ∷ []) ≡ length text + 1 = length_push text 10 in
    record {
      line = text ++ 10 ∷ [];
      first = ap terminated_lines e ∙ ended_line text rest h;
      text_is = sym is;
      counted = omega arith;
      within = within_limits before (text ++ 10 ∷ []) text is short (omega arith);
    }

-- a text that the end of the input ends
pub takes_last : (before after : ℕ) (text unread : List ℕ) → HasNoLineFeed text → 0 < length text → length text ≤ LINE_LIMIT → after ≤ INPUT_LIMIT → after ≡ before + length text → unread ≡ text → TakesLine before unread text after []
takes_last before after text unread h some short in_limit counted e =
    let is : line_text text ≡ text = ap line_text (sym (append-nil text)) ∙ line_text-append text [] h ∙ append-nil text in
    record {
      line = text;
      first = ap terminated_lines e ∙ last_line text h some;
      text_is = sym is;
      counted = counted;
      within = within_limits before text text is short (omega arith);
    }

-- what passes a limit where it has begun passes it as a whole
pub begun_passes : (before : ℕ) (text unread rest : List ℕ) → HasNoLineFeed text → 0 < length text → (LINE_LIMIT < length text) ⊎ (INPUT_LIMIT < before + length text) → unread ≡ text ++ rest → FirstPassesLimit before unread
begun_passes before text unread rest h some passes e =
    let b = begun_line text rest h some in
    let is : length (line_text (text ++ b.tail)) ≡ length text + length (line_text b.tail) = ap length (line_text-append text b.tail h) ∙ length-append text (line_text b.tail) in
    let long : length (text ++ b.tail) ≡ length text + length b.tail = length-append text b.tail in
    record {
      line = text ++ b.tail;
      more = b.more;
      first = ap terminated_lines e ∙ b.first;
      passes = either_passes LINE_LIMIT (length (line_text (text ++ b.tail))) INPUT_LIMIT (before + length (text ++ b.tail))
          (elim passes [ inl p ↦ inl (omega arith) | inr p ↦ inr (omega arith) ]);
    }

-- the same for a text that a line feed ends, with its line feed
pub ended_passes : (before : ℕ) (text unread rest : List ℕ) → HasNoLineFeed text → (LINE_LIMIT < length text) ⊎ (INPUT_LIMIT < before + length text + 1) → unread ≡ text ++ 10 ∷ rest → FirstPassesLimit before unread
ended_passes before text unread rest h passes e =
    let is : length (line_text (text ++ 10 ∷ [])) ≡ length text = ap length (line_text-append text (10 ∷ []) h ∙ append-nil text) in
    let long : length (text ++ 10 ∷ []) ≡ length text + 1 = length_push text 10 in
    record {
      line = text ++ 10 ∷ [];
      more = terminated_lines rest;
      first = ap terminated_lines e ∙ ended_line text rest h;
      passes = either_passes LINE_LIMIT (length (line_text (text ++ 10 ∷ []))) INPUT_LIMIT (before + length (text ++ 10 ∷ []))
          (elim passes [ inl p ↦ inl (omega arith) | inr p ↦ inr (omega arith) ]);
    }

-- pending bytes are cut at a line feed
cut_at : (pending : List ℕ) (i : ℕ) → i < length pending → get_or pending i 0 ≡ 10 → pending ≡ take i pending ++ 10 ∷ drop (i + 1) pending
cut_at pending i inside is = sym (take-append-drop i pending) ∙ ap (λ p. take i pending ++ p) (drop_more pending i 0 inside ∙ ap (λ b. b ∷ drop (i + 1) pending) is)

-- and so what is unread, behind a text that was handed out
pub unread_cut : (text pending rest unread : List ℕ) (i : ℕ) → i < length pending → get_or pending i 0 ≡ 10 → unread ≡ text ++ (pending ++ rest) → unread ≡ (text ++ take i pending) ++ 10 ∷ (drop (i + 1) pending ++ rest)
unread_cut text pending rest unread i inside is e =
    e ∙ ap (λ p. text ++ (p ++ rest)) (cut_at pending i inside is)
    ∙ ap (λ p. text ++ p) (append_assoc (take i pending) (10 ∷ drop (i + 1) pending) rest)
    ∙ sym (append_assoc text (take i pending) (10 ∷ (drop (i + 1) pending ++ rest)))

-- What a turn knows: the text so far, what stood unread before it, and what is pending now.
pub record Turn (before : ℕ) (first text : List ℕ) (count : ℕ) (pending shown pending' : List ℕ) (left left' left'' : Option (List ℕ)) : Type 0 where
  pub no_feed : HasNoLineFeed text
  pub counted : count ≡ before + length text
  pub told : OfUnread (λ unread rest. unread ≡ text ++ rest) first left pending left'
  pub same : OfUnread (λ unread rest. unread ≡ rest) pending left' pending' left''
  pub shown_is : shown ≡ pending'

-- where the first line feed stands in what is shown
pub record FeedAt (shown : List ℕ) (i : ℕ) : Type 0 where
  pub inside : i < length shown
  pub is : get_or shown i 0 ≡ 10
  pub before : HasNoLineFeed (take i shown)

length_cut : (text shown : List ℕ) (i : ℕ) → i < length shown → length (text ++ take i shown) ≡ length text + i
length_cut text shown i inside = let k : i ≤ length shown = omega arith in length-append text (take i shown) ∙ ap (λ n. length text + n) (length-take-le i shown k)

-- the turn that finds the line's end, within the limits
pub turn_line : (before : ℕ) (first text : List ℕ) (count : ℕ) (pending shown pending' : List ℕ) (left left' left'' : Option (List ℕ)) (i count' : ℕ) (line pending'' : List ℕ) →
    Turn before first text count pending shown pending' left left' left'' → FeedAt shown i → line ≡ text ++ take i pending' → pending'' ≡ drop (i + 1) pending' → count' ≡ count + (i + 1) → length line ≤ LINE_LIMIT → count' ≤ INPUT_LIMIT →
    OfUnread (λ unread rest. TakesLine before unread line count' rest) first left pending'' left''
turn_line before first text count pending shown pending' left left' left'' i count' line pending'' t f line_is rest_is count_is short in_limit =
    let f' : FeedAt pending' i = subst (λ (p : List ℕ). FeedAt p i) t.shown_is f in
    let P : List ℕ → List ℕ → Type 0 = λ unread rest. unread ≡ text ++ rest in
    let Q : List ℕ → List ℕ → Type 0 = λ unread rest. TakesLine before unread line count' rest in
    let no_feed : HasNoLineFeed line = subst HasNoLineFeed (sym line_is) (HasNoLineFeed-append text (take i pending') t.no_feed f'.before) in
    let long : length line ≡ length text + i = ap length line_is ∙ length_cut text pending' i f'.inside in
    let counted = t.counted in
    unread_step P Q first pending pending' left left' left'' pending'' t.told t.same
    (λ unread rest e. takes_ended before count' line unread (pending'' ++ rest) no_feed short in_limit (omega arith)
    (unread_cut text pending' rest unread i f'.inside f'.is e ∙ sym (ap (λ p. p ++ 10 ∷ (pending'' ++ rest)) line_is ∙ ap (λ p. (text ++ take i pending') ++ 10 ∷ (p ++ rest)) rest_is)))

-- the turn that finds the line's end past a limit
pub turn_limit : (before : ℕ) (first text : List ℕ) (count : ℕ) (pending shown pending' : List ℕ) (left left' left'' : Option (List ℕ)) (i : ℕ) →
    Turn before first text count pending shown pending' left left' left'' → FeedAt shown i → (LINE_LIMIT < length text + i) ⊎ (INPUT_LIMIT < count + (i + 1)) →
    IfSome left (λ l. FirstPassesLimit before (first ++ l))
turn_limit before first text count pending shown pending' left left' left'' i t f passes =
    let f' : FeedAt pending' i = subst (λ (p : List ℕ). FeedAt p i) t.shown_is f in
    let P : List ℕ → List ℕ → Type 0 = λ unread rest. unread ≡ text ++ rest in
    let no_feed : HasNoLineFeed (text ++ take i pending') = HasNoLineFeed-append text (take i pending') t.no_feed f'.before in
    let long : length (text ++ take i pending') ≡ length text + i = length_cut text pending' i f'.inside in
    let counted = t.counted in
    unread_shows P (FirstPassesLimit before) first pending pending' left left' left'' t.told t.same
    (λ unread rest e. ended_passes before (text ++ take i pending') unread (drop (i + 1) pending' ++ rest) no_feed
    (elim passes [ inl p ↦ inl (omega arith) | inr p ↦ inr (omega arith) ])
    (unread_cut text pending' rest unread i f'.inside f'.is e))

-- the turn that takes all that is pending, and passes a limit
pub turn_limit_within : (before : ℕ) (first text : List ℕ) (count : ℕ) (pending shown pending' : List ℕ) (left left' left'' : Option (List ℕ)) (n : ℕ) →
    Turn before first text count pending shown pending' left left' left'' → HasNoLineFeed shown → 0 < length pending' → n ≡ length shown → (LINE_LIMIT < length text + n) ⊎ (INPUT_LIMIT < count + n) →
    IfSome left (λ l. FirstPassesLimit before (first ++ l))
turn_limit_within before first text count pending shown pending' left left' left'' n t none some n_is passes =
    let P : List ℕ → List ℕ → Type 0 = λ unread rest. unread ≡ text ++ rest in
    let no_feed : HasNoLineFeed (text ++ pending') = HasNoLineFeed-append text pending' t.no_feed (subst HasNoLineFeed t.shown_is none) in
    let long : length (text ++ pending') ≡ length text + length pending' = length-append text pending' in
    let n_is' : n ≡ length pending' = n_is ∙ ap length t.shown_is in
    let counted = t.counted in
    unread_shows P (FirstPassesLimit before) first pending pending' left left' left'' t.told t.same
    (λ unread rest e. begun_passes before (text ++ pending') unread rest no_feed (omega arith)
    (elim passes [ inl p ↦ inl (omega arith) | inr p ↦ inr (omega arith) ])
    (e ∙ sym (append_assoc text pending' rest)))

-- the turn that takes all that is pending: the text goes on by it
pub turn_goes_on : (before : ℕ) (first text : List ℕ) (count : ℕ) (pending shown pending' : List ℕ) (left left' left'' : Option (List ℕ)) (n : ℕ) (line pending'' : List ℕ) →
    Turn before first text count pending shown pending' left left' left'' → n ≡ length shown → line ≡ text ++ take n pending' → pending'' ≡ drop n pending' →
    OfUnread (λ unread rest. unread ≡ line ++ rest) first left pending'' left''
turn_goes_on before first text count pending shown pending' left left' left'' n line pending'' t n_is line_is rest_is =
    let P : List ℕ → List ℕ → Type 0 = λ unread rest. unread ≡ text ++ rest in
    let Q : List ℕ → List ℕ → Type 0 = λ unread rest. unread ≡ line ++ rest in
    unread_step P Q first pending pending' left left' left'' pending'' t.told t.same
    (λ unread rest e. e ∙ ap (λ p. text ++ (p ++ rest)) (sym (take-append-drop n pending'))
    ∙ ap (λ p. text ++ p) (append_assoc (take n pending') (drop n pending') rest)
    ∙ sym (append_assoc text (take n pending') (drop n pending' ++ rest))
    ∙ sym (ap (λ p. p ++ (pending'' ++ rest)) line_is ∙ ap (λ p. (text ++ take n pending') ++ (p ++ rest)) rest_is))

-- the line so far has no line feed, whole or not
pub turn_no_feed : (before : ℕ) (first text : List ℕ) (count : ℕ) (pending shown pending' : List ℕ) (left left' left'' : Option (List ℕ)) (n : ℕ) (line : List ℕ) →
    Turn before first text count pending shown pending' left left' left'' → HasNoLineFeed shown → n ≡ length shown → line ≡ text ++ take n pending' → HasNoLineFeed line
turn_no_feed before first text count pending shown pending' left left' left'' n line t none n_is line_is =
    let all : take n pending' ≡ pending' = take_all n pending' (let e : n ≡ length pending' = n_is ∙ ap length t.shown_is in omega arith) in
    subst HasNoLineFeed (sym (line_is ∙ ap (λ p. text ++ p) all)) (HasNoLineFeed-append text pending' t.no_feed (subst HasNoLineFeed t.shown_is none))

-- the turn at the end of the source
pub turn_last : (before : ℕ) (first text : List ℕ) (count : ℕ) (pending shown pending' : List ℕ) (left left' left'' : Option (List ℕ)) (count' : ℕ) →
    Turn before first text count pending shown pending' left left' left'' → pending' ≡ [] → IsAtEnd left'' → 0 < length text → length text ≤ LINE_LIMIT → count' ≡ count → count' ≤ INPUT_LIMIT →
    OfUnread (λ unread rest. TakesLine before unread text count' rest) first left pending' left''
turn_last before first text count pending shown pending' left left' left'' count' t none at_end some short count_is in_limit =
    let P : List ℕ → List ℕ → Type 0 = λ unread rest. unread ≡ text ++ rest in
    let Q : List ℕ → List ℕ → Type 0 = λ unread rest. TakesLine before unread text count' rest in
    let counted = t.counted in
    unread_end P Q first pending pending' left left' left'' t.told t.same none at_end
    (λ unread e. takes_last before count' text unread t.no_feed some short in_limit (omega arith) (e ∙ append-nil text))

-- an error in one type of result and in another
pub err_at : {T U E : Type 0} (a b : E) → ◌≡◌ {A = Result T E} (Err a) (Err b) → ◌≡◌ {A = Result U E} (Err a) (Err b)
err_at a b h = let e : a ≡ b = cc in ap Err e

-- the count after a turn that takes all that is pending
pub turn_counted : (before : ℕ) (first text : List ℕ) (count : ℕ) (pending shown pending' : List ℕ) (left left' left'' : Option (List ℕ)) (count' n : ℕ) (line : List ℕ) →
    Turn before first text count pending shown pending' left left' left'' → n ≡ length shown → line ≡ text ++ take n pending' → count' ≡ count + n → count' ≡ before + length line
turn_counted before first text count pending shown pending' left left' left'' count' n line t n_is line_is count_is =
    let inside : n ≤ length pending' = (let e : n ≡ length pending' = n_is ∙ ap length t.shown_is in omega arith) in
    let long : length line ≡ length text + n = ap length line_is ∙ length-append text (take n pending') ∙ ap (λ k. length text + k) (length-take-le n pending' inside) in
    let counted = t.counted in
    omega arith

not_zero : (n : ℕ) (b : Bool) → b ≡ (n == 0) → not b ≡ true → 0 < n
not_zero n b e h = grind (arith, nat_tests)

-- a line that is not empty
pub not_empty : {E : Type 0} (n : ℕ) (b : Bool) → b ≡ (n == 0) → ◌≡◌ {A = Result Bool E} (Ok (not b)) (Ok true) → 0 < n
not_empty n b e h = let k : not b ≡ true = cc in not_zero n b e k
