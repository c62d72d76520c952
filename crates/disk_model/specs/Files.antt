-- Files by their volume and path. A path is the bytes of its text, relative to the pool's directory.
use Rattle.std.specs.Prelude.{ℕ, Bool, List, ◌∷◌, ◌++◌, ◌&&◌, ◌==◌, if◌then◌else◌, bytes_eq, Option, None}

-- which bytes stand at a volume and path, if any
abbrev pub Files : Type 0
Files = ℕ → List ℕ → Option (List ℕ)

-- no file at all
abbrev pub no_files : Files
no_files vol path = None

-- the two places are the same
abbrev pub is_place : ℕ → List ℕ → ℕ → List ℕ → Bool
is_place vol path v p = (vol == v) && bytes_eq path p

-- the files with another content at one place
abbrev pub with_content : Files → ℕ → List ℕ → Option (List ℕ) → Files
with_content files vol path content v p = if is_place vol path v p then content else files v p

-- the path of a name in a directory: a slash stands between them
abbrev pub path_in : List ℕ → List ℕ → List ℕ
path_in dir name = dir ++ 47 ∷ name
