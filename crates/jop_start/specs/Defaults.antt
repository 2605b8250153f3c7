-- The words that are read where the environment names a profile, a target and a password.
use Rattle.std.specs.Prelude.{ℕ, List, [], ◌∷◌, ◌++◌, codes, bytes_eq, Bool, false, ◌||◌, ◌&&◌, if◌then◌else◌, Option, Some, None}

-- the command has a target, and stands without it; `check` has a client behind that
abbrev pub lacks_target : List ℕ → List (List ℕ) → Bool
lacks_target command [] = bytes_eq command (codes "sync") || bytes_eq command (codes "upgrade")
lacks_target command (client ∷ []) = bytes_eq command (codes "check")
lacks_target command words = false

-- with the target behind the command, where it is left out
abbrev pub with_target : Option (List ℕ) → List (List ℕ) → List (List ℕ)
with_target None words = words
with_target (Some target) [] = []
with_target (Some target) (command ∷ words) =
    if lacks_target command words then command ∷ target ∷ words else command ∷ words

-- with this profile in front, if there is one
abbrev pub begun_by : Option (List ℕ) → List (List ℕ) → List (List ℕ)
begun_by None words = words
begun_by (Some path) words = codes "--profile" ∷ path ∷ words

-- the words of a password behind these two: of `blob` and an id, and of `keys --new`
abbrev pub password_words : List ℕ → List ℕ → List ℕ → List (List ℕ)
password_words command word password =
    if bytes_eq command (codes "blob") then codes "--password" ∷ password ∷ []
    else if bytes_eq command (codes "keys") && bytes_eq word (codes "--new") then password ∷ []
    else []

-- the same behind the words of a command, where there is a password
abbrev pub password_behind : Option (List ℕ) → List (List ℕ) → List (List ℕ)
password_behind None words = []
password_behind (Some password) (command ∷ word ∷ []) = password_words command word password
password_behind (Some password) words = []

-- the words of a command, with the target and the password that are left out
abbrev pub completed : Option (List ℕ) → Option (List ℕ) → List (List ℕ) → List (List ℕ)
completed target password words = with_target target words ++ password_behind password words

-- A profile that is typed counts, and so do a target and a password.
abbrev pub full_words : Option (List ℕ) → Option (List ℕ) → Option (List ℕ) → List (List ℕ)
    → List (List ℕ)
full_words profile target password (option ∷ path ∷ words) =
    if bytes_eq option (codes "--profile") then begun_by (Some path) (completed target password words)
    else begun_by profile (completed target password (option ∷ path ∷ words))
full_words profile target password words = begun_by profile (completed target password words)
