use Rattle.std.proofs.Common.{◌≡◌, ◌≢◌, List, ℕ, length, drop, get_or, ◌==◌, true, false, [], ◌∷◌, ◌++◌, Some, None, refl, sym, ◌∙◌, ap, arith, eq-eqb}
use Rattle.std.proofs.lemmas.Bool.{both_ways, eqb-true}
use Rattle.std.proofs.lemmas.List.{append_cancel_left, get_or_default}
use Rattle.std.proofs.lemmas.Str.Pattern.{strip_prefix_char, contains_char}
use Rattle.disk_model.specs.Files.{path_in}
use Rattle.disk_model.specs.Worlds.{IsFileName}
use Rattle.mem_disks.proofs.listing.name_in.Goals as goal
use Rattle.mem_disks.proofs.listing.name_in.Goals.{then-is_empty-via-then-is_empty, then-is_empty-via-else-is_empty+then-contains}

split : (path dir rest : List ℕ) (n : ℕ) → path ≡ dir ++ drop n path → rest ≡ drop n path → path ≡ dir ++ rest
split path dir rest n is same = is ∙ ap (λ (l : List ℕ). dir ++ l) (sym same)

-- the name after the slash is the only one
only_name : (path dir rest name other : List ℕ) → path ≡ dir ++ rest → rest ≡ 47 ∷ name → path ≡ path_in dir other → name ≡ other
only_name path dir rest name other whole slash same =
    let rests : 47 ∷ name ≡ 47 ∷ other = sym slash ∙ append_cancel_left dir rest (47 ∷ other) (sym whole ∙ same) in
    ap (λ (l : List ℕ). drop 1 l) rests

empty_name : (name other : List ℕ) → true ≡ (length name == 0) → name ≡ other → IsFileName other → ⊥
empty_name [] other empty same is = is.not_empty (sym same)
empty_name (byte ∷ name) other empty same is = let none : length (byte ∷ name) ≡ 0 = eqb-true _ _ (sym empty) in absurd (omega (arith, none))

full_name : (name : List ℕ) → false ≡ (length name == 0) → name ≢ []
full_name name full same = absurd (both_ways (length name == 0) (sym full) (eq-eqb (length name) 0 (ap (λ (l : List ℕ). length l) same)))

pub returns-in_err-name : goal.returns-in_err-name
returns-in_err-name c =
    let d = c.in_ok-rest.ensures.cases in
    let whole = split c.args.path.now c.args.dir.now c.in_ok-rest.rest.now d.0 d.1.1 d.2 in
    let none = strip_prefix_char 47 c.in_ok-rest.rest.now None c.in_err-name.ensures.cases (omega arith) in
    rw c.from_residual-in_err-name.ensures (λ name is same. none name (append_cancel_left c.args.dir.now c.in_ok-rest.rest.now (47 ∷ name) (sym whole ∙ same)))

pub returns-then-is_empty : goal.returns-then-is_empty
returns-then-is_empty c name is same =
    let d = c.in_ok-rest.ensures.cases in
    let whole = split c.args.path.now c.args.dir.now c.in_ok-rest.rest.now d.0 d.1.1 d.2 in
    let slash = strip_prefix_char 47 c.in_ok-rest.rest.now (Some c.in_ok-name.name) c.in_ok-name.ensures.cases (omega arith) in
    let one = only_name c.args.path.now c.args.dir.now c.in_ok-rest.rest.now c.in_ok-name.name.now name whole slash same in
    elim c.then-is_empty.branch [
      | then-is_empty-via-then-is_empty w ↦ empty_name c.in_ok-name.name.now name w.if-is_empty.ensures one is
      | then-is_empty-via-else-is_empty+then-contains w ↦
          let found = (contains_char 47 c.in_ok-name.name.now true w.if-contains.ensures.cases (omega arith)).0 refl in
          is.no_slash found.0 0 (omega (arith, found.1, ap (λ (l : List ℕ). length l) one)) (ap (λ (l : List ℕ). get_or l found.0 0) (sym one) ∙ found.2)
    ]

pub returns : goal.returns
returns c =
    let d = c.in_ok-rest.ensures.cases in
    let whole = split c.args.path.now c.args.dir.now c.in_ok-rest.rest.now d.0 d.1.1 d.2 in
    let slash = strip_prefix_char 47 c.in_ok-rest.rest.now (Some c.in_ok-name.name) c.in_ok-name.ensures.cases (omega arith) in
    let absent = (contains_char 47 c.in_ok-name.name.now false c.if-contains.ensures.cases (omega arith)).1 in (
      record {
        not_empty = full_name c.in_ok-name.name.now c.if-is_empty.ensures;
        no_slash = λ k e within is. absurd (cc (absent k within (get_or_default c.in_ok-name.name.now k 0 e within ∙ is)));
      },
      whole ∙ ap (λ (l : List ℕ). c.args.dir.now ++ l) slash,
    )
