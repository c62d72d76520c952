use Rattle.std.proofs.Common.{◌≡◌, Some, None, ap, sym, ◌∙◌, subst}
use Rattle.std.specs.BTreeMap.{Updates}
use Rattle.std.specs.Ordering.{nat_cmp}
use Rattle.std.specs.Prelude.{◌||◌, is_some}
use Rattle.std.proofs.lemmas.Result.{on_ok_weaker}
use Rattle.volume_layout.specs.BlockFiles.{same_file}
use Rattle.pool_survey.specs.Found.{found_of}
use Rattle.pool_survey.specs.Regions.{is_found}
use Rattle.pool_survey.proofs.Adding.{Puts, puts_at, none_found, added, blocks_stay, files_at}
use Rattle.pool_survey.proofs.found.add_file.Goals as goal

pub add-requires-clause-files : goal.add-requires-clause-files
add-requires-clause-files c =
    let was : found_of c.args.blocks.now c.args.id ≡ Some c.in-Some.files.now = ap (λ n. found_of c.args.blocks.now n) (sym c.get.ensures.value) ∙ sym c.in-Some.ensures.value in
    files_at _ _ _ was c.requires.blocks

pub returns-in-Some-clause-added : goal.returns-in-Some-clause-added
returns-in-Some-clause-added c =
    let was : found_of c.args.blocks.now c.args.id ≡ Some c.in-Some.files.now = ap (λ n. found_of c.args.blocks.now n) (sym c.get.ensures.value) ∙ sym c.in-Some.ensures.value in
    let puts : Puts c.args.blocks.now (c.get_mut.follows.lender c.add.new.self) c.args.id c.add.new.self =
    puts_at c.args.blocks.now (c.get_mut.follows.lender c.add.new.self) _ c.args.id c.add.new.self c.get.ensures.value ((c.get_mut.follows.holds c.add.new.self).3 (ap is_some (sym c.in-Some.ensures.value))) in
    on_ok_weaker c.add.result
    (λ adds. added c.args.blocks.now (c.get_mut.follows.lender c.add.new.self) c.args.id c.add.new.self puts c.args.file
    (λ other. adds other ∙ ap (λ found. is_found found other || same_file other c.args.file) (sym was))) c.add.ensures.added

pub returns-in-Some-clause-blocks : goal.returns-in-Some-clause-blocks
returns-in-Some-clause-blocks c =
    let puts : Puts c.args.blocks.now (c.get_mut.follows.lender c.add.new.self) c.args.id c.add.new.self =
    puts_at c.args.blocks.now (c.get_mut.follows.lender c.add.new.self) _ c.args.id c.add.new.self c.get.ensures.value ((c.get_mut.follows.holds c.add.new.self).3 (ap is_some (sym c.in-Some.ensures.value))) in
    on_ok_weaker c.add.result (λ files. blocks_stay c.args.blocks.now (c.get_mut.follows.lender c.add.new.self) c.args.id c.add.new.self puts c.requires.blocks c.get.ensures.in_range files) c.add.ensures.files

pub returns-clause-added : goal.returns-clause-added
returns-clause-added c =
    let was : found_of c.args.blocks.now c.args.id ≡ None = ap (λ n. found_of c.args.blocks.now n) (sym c.get.ensures.value) ∙ sym c.in_default.ensures.value in
    let puts : Puts c.args.blocks.now c.insert.new.self c.args.id c.add-2.new.self =
    puts_at c.args.blocks.now c.insert.new.self _ c.args.id c.add-2.new.self c.get-2.ensures.value (subst (λ map. Updates nat_cmp map c.insert.new.self c.get-2.result (Some c.add-2.new.self)) c.get_mut.follows.holds-at-none c.in_ok-insert.ensures.updates) in
    added c.args.blocks.now c.insert.new.self c.args.id c.add-2.new.self puts c.args.file
    (λ other. c.in_ok-add.ensures.added other
    ∙ ap (λ b. b || same_file other c.args.file) (c.none-files.ensures.none other ∙ sym (none_found other) ∙ ap (λ found. is_found found other) (sym was)))

pub returns-clause-blocks : goal.returns-clause-blocks
returns-clause-blocks c =
    let puts : Puts c.args.blocks.now c.insert.new.self c.args.id c.add-2.new.self =
    puts_at c.args.blocks.now c.insert.new.self _ c.args.id c.add-2.new.self c.get-2.ensures.value (subst (λ map. Updates nat_cmp map c.insert.new.self c.get-2.result (Some c.add-2.new.self)) c.get_mut.follows.holds-at-none c.in_ok-insert.ensures.updates) in
    blocks_stay c.args.blocks.now c.insert.new.self c.args.id c.add-2.new.self puts c.requires.blocks c.get.ensures.in_range c.in_ok-add.ensures.files
