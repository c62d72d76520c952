-- A file that was lent, or an absent one, which is read as one without bytes.
use Rattle.std.specs.Prelude.{ℕ, ◌≡◌, List, [], Option, Some, None}
use Rattle.disk_model.specs.Causes.{Rose}

module _ {R : Type 0} where
  -- its bytes, where it tells them
  abbrev pub file_bytes : (R → Option (List ℕ)) → Option R → Option (List ℕ)
  file_bytes bytes None = Some []
  file_bytes bytes (Some reader) = bytes reader

  -- how often it failed
  abbrev pub file_faults : (R → ℕ) → Option R → ℕ
  file_faults faults None = 0
  file_faults faults (Some reader) = faults reader

  -- the number of its reader
  abbrev pub file_number : (R → ℕ) → Option R → Option ℕ
  file_number number None = None
  file_number number (Some reader) = Some (number reader)

-- the file is the same: the reader's number, and its bytes
pub record SameFile {R : Type 0} (number : R → ℕ) (bytes : R → Option (List ℕ)) (old new : Option R) : Type 0 where
  pub number_is : file_number number new ≡ file_number number old
  pub bytes_are : file_bytes bytes new ≡ file_bytes bytes old

-- the file later, read by the reader of this number, whose count of faults rose since
pub record HasFailed {R : Type 0} (number faults : R → ℕ) (file : Option R) : Type 0 where
  pub later : Option R
  pub number_is : file_number number later ≡ file_number number file
  pub rose : Rose (file_faults faults file) (file_faults faults later)
