-- A run's last line behind what it wrote before.
use Rattle.std.proofs.Common.{◌≡◌, ◌≢◌, ℕ, ◌⊎◌, ◌==◌, inl, inr, List, [], ◌++◌, refl, sym, subst, Option, true, false, MatchBool, Bool}
use Rattle.std.specs.Io.KnownBytes.{Appends}
use Rattle.line_io.specs.Written.{AppendsFront}
use Rattle.line_io.proofs.Appending.{appends_nothing, appends_append, front_then, front_stays}
use Rattle.run_end.specs.declared.ending.Ending.{Ending}
use Rattle.run_end.specs.declared.ending.Ending.TheVariants.{Complete, SinkFault, NoMemory}
use Rattle.run_end.specs.Ending.{status_of, last_line}
use Rattle.run_end.specs.Closing.{Writes, Ends, Closed}

then_by : (b : Bool) (old mid new : Option (List ℕ)) (xs ys : List ℕ) → Appends old mid xs → MatchBool b (AppendsFront mid new ys) (Appends mid new ys) → MatchBool b (AppendsFront old new (xs ++ ys)) (Appends old new (xs ++ ys))
then_by true old mid new xs ys h k = front_then old mid new xs ys h k
then_by false old mid new xs ys h k = appends_append old mid new xs ys h k

-- a whole text, and then one that is written so
pub writes_then : (status : ℕ) (old mid new : Option (List ℕ)) (xs ys : List ℕ) → Appends old mid xs → Writes status mid new ys → Writes status old new (xs ++ ys)
writes_then status old mid new xs ys h k = then_by (status == 3) old mid new xs ys h k

nothing_by : (b : Bool) (taken : Option (List ℕ)) → MatchBool b (AppendsFront taken taken []) (Appends taken taken [])
nothing_by true taken = (0, appends_nothing taken)
nothing_by false taken = appends_nothing taken

-- where nothing is written
pub writes_nothing : (status : ℕ) (taken : Option (List ℕ)) → Writes status taken taken []
writes_nothing status taken = nothing_by (status == 3) taken

-- a run whose sink did not fail wrote the whole text
pub writes_whole : (ending : Ending) (old mid : Option (List ℕ)) (text : List ℕ) → ending ≢ SinkFault → Writes (status_of ending) old mid text → Appends old mid text
writes_whole SinkFault old mid text apart h = absurd (apart refl)
writes_whole ending old mid text apart h = h

-- a run that has a last line
closes_by : (closing : Ending) (status : ℕ) (old mid new : Option (List ℕ)) (text : List ℕ) → Appends old mid text → (status ≡ status_of closing) ⊎ (status ≡ 3) → Writes status mid new (last_line closing) → Ends closing old new text status
closes_by closing status old mid new text h is k = record { status_is = is; written = writes_then status old mid new text (last_line closing) h k }

pub closed_so : (ending : Ending) (status : ℕ) (old mid new : Option (List ℕ)) (text : List ℕ) → ending ≢ SinkFault → Writes (status_of ending) old mid text
    → (status ≡ status_of ending) ⊎ (status ≡ 3) → Writes status mid new (last_line ending) → Closed ending old new text status
closed_so ending status old mid new text apart h is k = record {
  closing = ending;
  closing_is = inl refl;
  ends = closes_by ending status old mid new text (writes_whole ending old mid text apart h) is k;
}

-- and no memory for it
pub closed_without : (ending : Ending) (status : ℕ) (old mid new : Option (List ℕ)) (text : List ℕ) → ending ≢ SinkFault → ending ≢ Complete → Writes (status_of ending) old mid text
    → (status ≡ status_of NoMemory) ⊎ (status ≡ 3) → Writes status mid new (last_line NoMemory) → Closed ending old new text status
closed_without ending status old mid new text apart some h is k = record {
  closing = NoMemory;
  closing_is = inr (refl, apart, some);
  ends = closes_by NoMemory status old mid new text (writes_whole ending old mid text apart h) is k;
}

-- a run that has none
pub closed_complete : (status : ℕ) (old mid : Option (List ℕ)) (text : List ℕ) → Writes 0 old mid text → status ≡ 0 → Closed Complete old mid text status
closed_complete status old mid text h is = record {
  closing = Complete;
  closing_is = inl refl;
  ends = closes_by Complete status old mid mid text h (inl is) (writes_nothing status mid);
}

pub closed_failed : (status : ℕ) (old mid : Option (List ℕ)) (text : List ℕ) → Writes 3 old mid text → status ≡ 3 → Closed SinkFault old mid text status
closed_failed status old mid text h is = record {
  closing = SinkFault;
  closing_is = inl refl;
  ends = record {
    status_is = inl is;
    written = subst (λ (s : ℕ). Writes s old mid (text ++ [])) (sym is) (front_stays old mid text h);
  };
}

-- want of memory may stand for any ending that has a last line
pub closed_for_memory : (ending : Ending) (taken taken' : Option (List ℕ)) (text : List ℕ) (status : ℕ) → ending ≢ SinkFault → ending ≢ Complete → Closed NoMemory taken taken' text status → Closed ending taken taken' text status
closed_for_memory ending taken taken' text status apart some k = record {
  closing = k.closing;
  closing_is = elim k.closing_is [ inl e ↦ inr (e, apart, some) | inr e ↦ inr (e.0, apart, some) ];
  ends = k.ends;
}
