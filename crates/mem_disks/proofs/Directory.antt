-- The names of a directory, from the part of a volume's names that begins with it.
use Rattle.std.proofs.Common.{◌≡◌, ℕ, ◌⊎◌, inl, inr, ◌&&◌, List, [], ◌∷◌, ◌++◌, drop, All, Contains, Bool, true, false, not, cond, filter, Some, IsSome, string_bytes, refl, sym, ◌∙◌, ap, subst, arith}
use Rattle.std.specs.BTreeMap.{BTreeMap}
use Rattle.std.specs.declared.string.String.{String}
use Rattle.std.specs.Map.{lookup, keys_of}
use Rattle.std.specs.String.{string_cmp}
use Rattle.std.specs.Ordering.{nat_cmp, is_eq, is_le, is_gt, ordering_reverse}
use Rattle.std.specs.Cmp.{nat_cmp_total}
use Rattle.std.specs.declared.cmp.Ordering.{Ordering}
use Rattle.std.specs.declared.cmp.Ordering.TheVariants.{Less, Equal, Greater}
use Rattle.std.specs.Cmp.Lexicographic.{slice_cmp}
use Rattle.std.specs.List.{AllByRecursion}
use Rattle.std.specs.List.Sorted.{IsStrictlySortedBy}
use Rattle.std.proofs.lemmas.Bool.{cases_Bool, both_ways}
use Rattle.std.proofs.lemmas.List.{append_assoc, append-nil, append_cancel_left}
use Rattle.std.proofs.lemmas.List.Kept.{IsStrictlySortedBy-filter}
use Rattle.std.proofs.lemmas.List.Elements.{All-push, All-weaker, Contains-push, Contains-append_left}
use Rattle.std.proofs.lemmas.Map.Keys.{sorted_head, sorted_tail}
use Rattle.std.proofs.lemmas.Map.Text.{is_eq-slice_cmp}
use Rattle.std.proofs.lemmas.Slice.Eq.{bytes_eq-Decides}
use Rattle.disk_model.specs.Files.{path_in}
use Rattle.disk_model.specs.Names.{IsBelow, IsInOrder}
use Rattle.disk_model.specs.Worlds.{IsFileName}
use Rattle.mem_disks.specs.declared.shelves.Entry.{Entry}
use Rattle.mem_disks.specs.Listing.{IsHeld, Lists}

-- ---- the order of texts with the same front

self_equal : (o : Ordering) → o ≡ ordering_reverse o → o ≡ Equal
self_equal Less is = absurd (cc is)
self_equal Equal is = refl
self_equal Greater is = absurd (cc is)

same_number : (n : ℕ) → nat_cmp n n ≡ Equal
same_number n = self_equal (nat_cmp n n) (nat_cmp_total.antisymm n n)

pub same_front : (front a b : List ℕ) → slice_cmp nat_cmp (front ++ a) (front ++ b) ≡ slice_cmp nat_cmp a b
same_front [] a b = refl
same_front (x ∷ front) a b = rw (same_number x) (same_front front a b)

same_name : (dir name other : List ℕ) → path_in dir name ≡ path_in dir other → name ≡ other
same_name dir name other same = ap (λ (l : List ℕ). drop 1 l) (append_cancel_left dir (47 ∷ name) (47 ∷ other) same)

-- ---- what stands under some entry

module _ {Y : Type 0} where
  -- some entry has this path
  abbrev pub Has : List (String Y × Entry) → List ℕ → Type 0
  Has [] path = ⊥
  Has (e ∷ es) path = (string_bytes e.0 ≡ path) ⊎ Has es path

  pub has_last : (es : List (String Y × Entry)) (e : String Y × Entry) (path : List ℕ) → Has (es ++ e ∷ []) path → Has es path ⊎ (string_bytes e.0 ≡ path)
  has_last [] e path (inl here) = inr here
  has_last [] e path (inr none) = absurd none
  has_last (first ∷ es) e path (inl here) = inl (inl here)
  has_last (first ∷ es) e path (inr later) = elim (has_last es e path later) [ inl before ↦ inl (inr before) | inr last ↦ inr last ]

  pub has_before : (es : List (String Y × Entry)) (e : String Y × Entry) (path : List ℕ) → Has es path → Has (es ++ e ∷ []) path
  has_before [] e path has = absurd has
  has_before (first ∷ es) e path (inl here) = inl here
  has_before (first ∷ es) e path (inr later) = inr (has_before es e path later)

  pub has_end : (es : List (String Y × Entry)) (e : String Y × Entry) → Has (es ++ e ∷ []) (string_bytes e.0)
  has_end [] e = inl refl
  has_end (first ∷ es) e = inr (has_end es e)

  found : (es : List (String Y × Entry)) (path : List ℕ) → Has es path → IsSome (lookup (λ k. is_eq (slice_cmp nat_cmp path (string_bytes k))) es)
  found [] path has = absurd has
  found (e ∷ es) path has = elim (cases_Bool (is_eq (slice_cmp nat_cmp path (string_bytes e.0)))) [
    | inl here ↦ rw here refl
    | inr other ↦ rw other (elim has [
      | inl is ↦ absurd (both_ways _ other (is_eq-slice_cmp path (string_bytes e.0) ∙ (bytes_eq-Decides path (string_bytes e.0)).1 (sym is)))
      | inr later ↦ found es path later
    ])
  ]

  pub finds : (es : List (String Y × Entry)) (path : List ℕ) → IsSome (lookup (λ k. is_eq (slice_cmp nat_cmp path (string_bytes k))) es) → Has es path
  finds [] path some = absurd (cc some)
  finds (e ∷ es) path some = elim (cases_Bool (is_eq (slice_cmp nat_cmp path (string_bytes e.0)))) [
    | inl here ↦ inl (sym ((bytes_eq-Decides path (string_bytes e.0)).0 (sym (is_eq-slice_cmp path (string_bytes e.0)) ∙ here)))
    | inr other ↦ inr (finds es path (subst (λ b. IsSome (cond b (Some e.1) (lookup (λ k. is_eq (slice_cmp nat_cmp path (string_bytes k))) es))) other some))
  ]

  -- the entries that a test keeps
  kept_before : (keep : String Y → Bool) (es : List (String Y × Entry)) (path : List ℕ) → Has (filter (λ e. keep e.0) es) path → Has es path
  kept_before keep [] path has = absurd has
  kept_before keep (e ∷ es) path has = elim (cases_Bool (keep e.0)) [
    | inl stays ↦ elim (subst (λ b. Has (cond b (e ∷ filter (λ x. keep x.0) es) (filter (λ x. keep x.0) es)) path) stays has) [ inl here ↦ inl here | inr later ↦ inr (kept_before keep es path later) ]
    | inr goes ↦ inr (kept_before keep es path (subst (λ b. Has (cond b (e ∷ filter (λ x. keep x.0) es) (filter (λ x. keep x.0) es)) path) goes has))
  ]

  kept_after : (keep : String Y → Bool) (es : List (String Y × Entry)) (path : List ℕ) → ((k : String Y) → string_bytes k ≡ path → keep k ≡ true)
      → Has es path → Has (filter (λ e. keep e.0) es) path
  kept_after keep [] path keeps has = absurd has
  kept_after keep (e ∷ es) path keeps (inl here) = rw (keeps e.0 here) (inl here)
  kept_after keep (e ∷ es) path keeps (inr later) = elim (cases_Bool (keep e.0)) [
    | inl stays ↦ rw stays (inr (kept_after keep es path keeps later))
    | inr goes ↦ rw goes (kept_after keep es path keeps later)
  ]

  keys_kept : (keep : String Y → Bool) (es : List (String Y × Entry)) → keys_of (filter (λ e. keep e.0) es) ≡ filter keep (keys_of es)
  keys_kept keep [] = refl
  keys_kept keep (e ∷ es) = elim (cases_Bool (keep e.0)) [
    | inl stays ↦ rw stays (ap (λ (l : List (String Y)). e.0 ∷ l) (keys_kept keep es))
    | inr goes ↦ rw goes (keys_kept keep es)
  ]

  -- ---- what comes later in the order

  reaches : (P : String Y → Type 0) (done : List (String Y × Entry)) (e : String Y × Entry) (rest : List (String Y × Entry)) → AllByRecursion P (keys_of (done ++ e ∷ rest)) → P e.0
  reaches P [] e rest all = all.0
  reaches P (first ∷ done) e rest all = reaches P done e rest all.1

  later : (done : List (String Y × Entry)) (e : String Y × Entry) (rest : List (String Y × Entry)) (path : List ℕ) → IsStrictlySortedBy string_cmp (keys_of (done ++ e ∷ rest))
      → Has done path → slice_cmp nat_cmp path (string_bytes e.0) ≡ Less
  later [] e rest path sorted has = absurd has
  later (first ∷ done) e rest path sorted (inl here) =
      subst (λ (p : List ℕ). slice_cmp nat_cmp p (string_bytes e.0) ≡ Less) here
      (reaches (λ k. string_cmp first.0 k ≡ Less) done e rest (sorted_head string_cmp first.0 (keys_of (done ++ e ∷ rest)) sorted))
  later (first ∷ done) e rest path sorted (inr more) = later done e rest path (sorted_tail string_cmp first.0 (keys_of (done ++ e ∷ rest)) sorted) more

  -- ---- the names so far

  -- of the entries, those before the rest were looked at, and the names are those of the directory among them
  pub record Listed (dir : List ℕ) (all rest : List (String Y × Entry)) (names : List (List ℕ)) : Type 0 where
    pub done : List (String Y × Entry)
    pub whole : all ≡ done ++ rest
    pub order : IsInOrder names
    pub only : All (λ name. IsFileName name × Has done (path_in dir name)) names
    pub each : (name : List ℕ) → IsFileName name → Has done (path_in dir name) → Contains names name

  pub none_listed : (dir : List ℕ) (all : List (String Y × Entry)) → Listed dir all all []
  none_listed dir all = record {
    done = [];
    whole = refl;
    order = λ i j d below within. absurd (omega (arith, within));
    only = λ k d within. absurd (omega (arith, within));
    each = λ name is has. absurd has;
  }

  module _ (dir : List ℕ) (all rest : List (String Y × Entry)) (names : List (List ℕ)) (listed : Listed dir all rest names)
      (e : String Y × Entry) (more : List (String Y × Entry)) (is : rest ≡ e ∷ more) where
    again : all ≡ (listed.done ++ e ∷ []) ++ more
    again = listed.whole ∙ ap (λ (l : List (String Y × Entry)). listed.done ++ l) is ∙ sym (append_assoc listed.done (e ∷ []) more)

    -- the entry isn't in the directory
    pub passes : ((name : List ℕ) → IsFileName name → string_bytes e.0 ≡ path_in dir name → ⊥) → Listed dir all more names
    passes none = record {
      done = listed.done ++ e ∷ [];
      whole = again;
      order = listed.order;
      only = All-weaker (λ name. IsFileName name × Has listed.done (path_in dir name)) (λ name. IsFileName name × Has (listed.done ++ e ∷ []) (path_in dir name))
          (λ name has. (has.0, has_before listed.done e (path_in dir name) has.1)) names listed.only;
      each = λ name file has. elim (has_last listed.done e (path_in dir name) has) [
        | inl before ↦ listed.each name file before
        | inr here ↦ absurd (none name file here)
      ];
    }

    module _ (name : List ℕ) (file : IsFileName name) (path : string_bytes e.0 ≡ path_in dir name) where
      -- the entry is a name of the directory, and comes after those so far
      pub comes_after : IsStrictlySortedBy string_cmp (keys_of all) → All (λ earlier. IsBelow earlier name) names
      comes_after sorted = All-weaker (λ earlier. IsFileName earlier × Has listed.done (path_in dir earlier)) (λ earlier. IsBelow earlier name)
          (λ earlier has.
          let before = later listed.done e more (path_in dir earlier)
          (subst (λ (l : List (String Y × Entry)). IsStrictlySortedBy string_cmp (keys_of l)) (listed.whole ∙ ap (λ (l : List (String Y × Entry)). listed.done ++ l) is) sorted) has.1 in
          let shown : slice_cmp nat_cmp (dir ++ 47 ∷ earlier) (dir ++ 47 ∷ name) ≡ Less = subst (λ (p : List ℕ). slice_cmp nat_cmp (path_in dir earlier) p ≡ Less) path before in
          sym (same_front dir (47 ∷ earlier) (47 ∷ name)) ∙ shown) names listed.only

      pub pushes : (grown : List (List ℕ)) → grown ≡ names ++ name ∷ [] → IsInOrder grown → Listed dir all more grown
      pushes grown items order = record {
        done = listed.done ++ e ∷ [];
        whole = again;
        order = order;
        only = subst (λ (ns : List (List ℕ)). All (λ n. IsFileName n × Has (listed.done ++ e ∷ []) (path_in dir n)) ns) (sym items)
            (All-push (λ n. IsFileName n × Has (listed.done ++ e ∷ []) (path_in dir n)) names name
            (All-weaker (λ n. IsFileName n × Has listed.done (path_in dir n)) (λ n. IsFileName n × Has (listed.done ++ e ∷ []) (path_in dir n))
            (λ n has. (has.0, has_before listed.done e (path_in dir n) has.1)) names listed.only)
            (file, subst (λ (p : List ℕ). Has (listed.done ++ e ∷ []) p) path (has_end listed.done e)));
        each = λ n is_file has. subst (λ (ns : List (List ℕ)). Contains ns n) (sym items) (elim (has_last listed.done e (path_in dir n) has) [
          | inl before ↦ Contains-append_left names (name ∷ []) n (listed.each n is_file before)
          | inr here ↦ subst (λ m. Contains (names ++ name ∷ []) m) (same_name dir name n (sym path ∙ here)) (Contains-push names name)
        ]);
      }

  -- ---- all names

  -- the part of the names from the slash on, before the character after the slash
  abbrev pub is_part : String Y → String Y → String Y → Bool
  is_part first past k = is_le (string_cmp first k) && not (is_le (string_cmp past k))

  in_part : (dir name : List ℕ) (first past k : String Y) → string_bytes first ≡ dir ++ 47 ∷ [] → string_bytes past ≡ dir ++ 48 ∷ [] → string_bytes k ≡ path_in dir name
      → is_part first past k ≡ true
  in_part dir name first past k low high is =
      let one : string_cmp first k ≡ slice_cmp nat_cmp [] name =
      ap (λ (t : List ℕ). slice_cmp nat_cmp t (string_bytes k)) low ∙ ap (λ (t : List ℕ). slice_cmp nat_cmp (dir ++ 47 ∷ []) t) is ∙ same_front dir (47 ∷ []) (47 ∷ name) in
      let two : string_cmp past k ≡ Greater =
      ap (λ (t : List ℕ). slice_cmp nat_cmp t (string_bytes k)) high ∙ ap (λ (t : List ℕ). slice_cmp nat_cmp (dir ++ 48 ∷ []) t) is ∙ same_front dir (48 ∷ []) (47 ∷ name) in
      rw one (rw two (from_front name))
    where
      from_front : (text : List ℕ) → (is_le (slice_cmp nat_cmp [] text) && not (is_le Greater)) ≡ true
      from_front [] = refl
      from_front (x ∷ text) = refl

  pub is_forward : (dir : List ℕ) (first past : String Y) → string_bytes first ≡ dir ++ 47 ∷ [] → string_bytes past ≡ dir ++ 48 ∷ [] → is_gt (string_cmp first past) ≡ false
  is_forward dir first past low high =
      let one : string_cmp first past ≡ Less =
      ap (λ (t : List ℕ). slice_cmp nat_cmp t (string_bytes past)) low ∙ ap (λ (t : List ℕ). slice_cmp nat_cmp (dir ++ 47 ∷ []) t) high ∙ same_front dir (47 ∷ []) (48 ∷ []) in
      rw one refl

  pub sorted_part : (keep : String Y → Bool) (es part : List (String Y × Entry)) → part ≡ filter (λ e. keep e.0) es → IsStrictlySortedBy string_cmp (keys_of es) → IsStrictlySortedBy string_cmp (keys_of part)
  sorted_part keep es part is sorted =
      subst (λ (ks : List (String Y)). IsStrictlySortedBy string_cmp ks) (sym (ap keys_of is ∙ keys_kept keep es)) (IsStrictlySortedBy-filter string_cmp keep (keys_of es) sorted)

  pub all_listed : (dir : List ℕ) (first past : String Y) (shelf : BTreeMap (String Y) Entry) (part rest : List (String Y × Entry)) (names : List (List ℕ))
      → string_bytes first ≡ dir ++ 47 ∷ [] → string_bytes past ≡ dir ++ 48 ∷ [] → part ≡ filter (λ e. is_part first past e.0) shelf.entries → rest ≡ []
      → Listed dir part rest names → Lists shelf dir names
  all_listed dir first past shelf part rest names low high is ended listed =
      let whole : part ≡ listed.done = listed.whole ∙ ap (λ (l : List (String Y × Entry)). listed.done ++ l) ended ∙ append-nil listed.done in
      record {
        sorted = listed.order;
        only = All-weaker (λ name. IsFileName name × Has listed.done (path_in dir name)) (λ name. IsHeld shelf dir name)
            (λ name has. record {
              is_name = has.0;
              stands = found shelf.entries (path_in dir name) (kept_before (is_part first past) shelf.entries (path_in dir name)
                  (subst (λ (l : List (String Y × Entry)). Has l (path_in dir name)) (sym whole ∙ is) has.1));
            }) names listed.only;
        all = λ name is_held. listed.each name is_held.is_name (subst (λ (l : List (String Y × Entry)). Has l (path_in dir name)) (sym is ∙ whole)
            (kept_after (is_part first past) shelf.entries (path_in dir name) (λ k at. in_part dir name first past k low high at) (finds shelf.entries (path_in dir name) is_held.stands)));
      }
