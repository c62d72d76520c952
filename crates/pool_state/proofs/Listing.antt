-- The leftovers of a block, while one of them is taken off the list.
use Rattle.std.proofs.Common.{◌≡◌, ℕ, suc, List, ◌∷◌, length, Some, None, sym, ◌∙◌, ap, subst, arith, inl, inr, ◌==◌, if◌then◌else◌}
use Rattle.std.specs.Prelude.{drop, map, remove, slice_get, option_map}
use Rattle.std.proofs.lemmas.Bool.{cases_eq, eq-eqb, ne_eqb}
use Rattle.std.proofs.lemmas.Option.{slice_get_within, same_Some}
use Rattle.std.proofs.lemmas.List.Edits.{length-remove}
use Rattle.map_model.specs.Stands.{Leftover as BookLeftover}
use Rattle.map_model.specs.Tenures.{books_of}
use Rattle.replica_map.specs.declared.leftover.Leftover.{Leftover}
use Rattle.replica_map.specs.declared.row.Row.{Row}
use Rattle.replica_map.specs.Books.{Books, entry_at, grown_at, leftovers_of, SameRows, KeepsOthers, IsFirstOf}
use Rattle.pool_state.specs.Books.{book_entry, book_leftover, books_with, left_at, block_books}

-- the entries stay, and with these leftovers a block's books say the same
pub rows_same : (old new : Books) → SameRows old new → (id : ℕ) (left : List BookLeftover) → books_with (grown_at new id) (entry_at new id) left ≡ books_with (grown_at old id) (entry_at old id) left
rows_same old new same id left = ap (λ (rows : List Row). books_with (grown_at (record old { rows = rows }) id) (entry_at (record old { rows = rows }) id) left) same.0

module _ (id at : ℕ) (old : Books) (first : IsFirstOf id at old) where
  -- the others of its block
  abbrev pub rest : List BookLeftover
  rest = map book_leftover (leftovers_of (record old { leftovers = remove old.leftovers at }) id)

  -- the leftover at the place is listed before them
  pub listed : (leftover : Leftover) → slice_get old.leftovers at ≡ Some leftover →
      block_books old id ≡ books_of (option_map (book_entry (grown_at old id)) (entry_at old id)) (book_leftover leftover ∷ rest) None
  listed leftover is =
      ap (λ l. books_of (option_map (book_entry (grown_at old id)) (entry_at old id)) (map book_leftover l) None) first.before
      ∙ ap (λ (x : Leftover). books_of (option_map (book_entry (grown_at old id)) (entry_at old id)) (book_leftover x ∷ rest) None) (same_Some _ _ (sym first.at ∙ is))

  pub within : Rattle.std.proofs.Common.◌<◌ at (length old.leftovers)
  within = slice_get_within old.leftovers at first.leftover first.at

  module _ (new : Books) (same : SameRows old new) (removed : new.leftovers ≡ remove old.leftovers at) where
    pub one_fewer : suc (length new.leftovers) ≡ length old.leftovers
    one_fewer = omega (arith, ap length removed, length-remove old.leftovers at within)

    -- and they stay without it
    pub dropped : ((leftover : Leftover) → slice_get old.leftovers at ≡ Some leftover → KeepsOthers leftover old new) → (other : ℕ) →
        block_books new other ≡ (if other == id then books_of (option_map (book_entry (grown_at old id)) (entry_at old id)) rest None else block_books old other)
    dropped others other = elim (cases_eq other id) [
      | inl same_id ↦ rw (eq-eqb other id same_id) (
          subst (λ n. block_books new n ≡ books_of (option_map (book_entry (grown_at old id)) (entry_at old id)) rest None) (sym same_id)
          (rows_same old new same id (left_at new id) ∙ ap (λ (l : List Leftover). books_of (option_map (book_entry (grown_at old id)) (entry_at old id)) (map book_leftover (leftovers_of (record old { leftovers = l }) id)) None) removed))
      | inr apart ↦ rw (ne_eqb other id apart) (
          rows_same old new same other (left_at new other)
          ∙ ap (λ l. books_of (option_map (book_entry (grown_at old other)) (entry_at old other)) (map book_leftover l) None) (others first.leftover first.at other (λ e. apart (sym e ∙ first.own))))
    ]

    -- the first of its block's leftovers is gone
    pub first_gone : left_at new id ≡ drop 1 (left_at old id)
    first_gone = ap (λ (l : List Leftover). map book_leftover (leftovers_of (record old { leftovers = l }) id)) removed
        ∙ sym (ap (λ (l : List Leftover). drop 1 (map book_leftover l)) first.before)
