-- The names of a directory are those that stand in the world.
use Rattle.std.proofs.Common.{◌≡◌, ℕ, ◌-◌, ◌≤◌, List, Option, None, Some, IsSome, Result, Ok, Err, IfOk, refl, sym, ◌∙◌, subst}
use Rattle.std.specs.BTreeMap.{BTreeMap, get_by_text}
use Rattle.std.specs.declared.string.String.{String}
use Rattle.std.proofs.lemmas.Bool.{both_ways}
use Rattle.std.proofs.lemmas.List.Elements.{All-weaker}
use Rattle.disk_model.specs.Files.{path_in}
use Rattle.disk_model.specs.Worlds.{World, IsAbsent, IsPresent, IsListing, has_draft}
use Rattle.mem_disks.specs.declared.history.Recorded.{Recorded}
use Rattle.mem_disks.specs.declared.shelves.Entry.{Entry}
use Rattle.mem_disks.specs.declared.shelves.Entry.TheVariants.{Draft, File}
use Rattle.mem_disks.specs.Shelves.{held}
use Rattle.mem_disks.specs.History.{fork_after}
use Rattle.mem_disks.specs.Entries.{is_draft, file_of, ShowsDrafts, ShowsFiles}
use Rattle.mem_disks.specs.Listing.{IsHeld, Lists}

-- an entry is there where something stands
stands_there : (records : List Recorded) (world : World) (vol : ℕ) (path : List ℕ) (entry : Option Entry) → has_draft world vol path ≡ is_draft entry → world.settled vol path ≡ file_of records entry
    → IsSome entry → IsAbsent world vol path → ⊥
stands_there records world vol path None draft file some absent = absurd (cc some)
stands_there records world vol path (Some Draft) draft file some absent = both_ways _ absent.no_draft draft
stands_there records world vol path (Some (File index)) draft file some absent = cc (sym absent.file ∙ file)

entry_there : (records : List Recorded) (world : World) (vol : ℕ) (path : List ℕ) (entry : Option Entry) → has_draft world vol path ≡ is_draft entry → world.settled vol path ≡ file_of records entry
    → (IsAbsent world vol path → ⊥) → IsSome entry
entry_there records world vol path None draft file stands = absurd (stands (record { file = file; no_draft = draft }))
entry_there records world vol path (Some entry) draft file stands = refl

pub listing : {Y : Type 0} (count : ℕ) (records : List Recorded) (shelves : List (BTreeMap (String Y) Entry)) (vol : ℕ) (dir : List ℕ) (shelf : BTreeMap (String Y) Entry)
    → 1 ≤ vol → vol ≤ count → ShowsDrafts count records shelves → ShowsFiles count records shelves → ((path : List ℕ) → held shelves (vol - 1) path ≡ get_by_text shelf path)
    → (names : List (List ℕ)) → Lists shelf dir names → IsListing (fork_after records).now vol dir names
listing count records shelves vol dir shelf low high drafts files same names lists = record {
  sorted = lists.sorted;
  only = All-weaker (λ name. IsHeld shelf dir name) (λ name. IsPresent (fork_after records).now vol dir name)
      (λ name is_held. record {
        is_name = is_held.is_name;
        stands = stands_there records (fork_after records).now vol (path_in dir name) (held shelves (vol - 1) (path_in dir name)) (drafts vol (path_in dir name) low high) (files vol (path_in dir name) low high)
            (subst (λ entry. IsSome entry) (sym (same (path_in dir name))) is_held.stands);
      }) names lists.only;
  all = λ name present. lists.all name (record {
    is_name = present.is_name;
    stands = subst (λ entry. IsSome entry) (same (path_in dir name))
        (entry_there records (fork_after records).now vol (path_in dir name) (held shelves (vol - 1) (path_in dir name)) (drafts vol (path_in dir name) low high) (files vol (path_in dir name) low high) present.stands);
  });
}

pub if_ok : {T E : Type 0} (result : Result T E) (P Q : T → Type 0) → ((x : T) → P x → Q x) → IfOk result P → IfOk result Q
if_ok (Ok x) P Q leads holds = leads x holds
if_ok (Err e) P Q leads holds = tt
