-- What is open while a run goes on, and what is known of it when it was just made.
use Rattle.std.specs.Prelude.{◌≡◌, ℕ, List, [], Bool, true, false, Option, Some, None}
use Rattle.jop_target.specs.Memory.{memory_at}
use Rattle.jop_target.specs.Replies.{TargetNow}
use Rattle.jop_words.specs.declared.profile.Profile.{Profile}
use Rattle.jop_words.specs.declared.profile.Profile.TheVariants.{Memory, File}
use Rattle.jop_words.specs.declared.target_name.TargetKind.{TargetKind}
use Rattle.jop_words.specs.declared.target_name.TargetKind.TheVariants.{Mem, Dir, Dav, WebDav}
use Rattle.keeper.specs.Keepers.{KeeperNow}
use Rattle.local_store.specs.Tables.{new_tables}
use Rattle.webdav_calls.specs.Sites.{basic_credentials}

-- ---- what is open

-- a file of tables and a target at a moment
pub record OpenNow : Type 0 where
  pub keeper : KeeperNow
  pub target : TargetNow

-- What was open at first and at last is told by what opened it, and by what was done with it meanwhile.
pub record WhileOpen (opened done : OpenNow → OpenNow → Type 0) : Type 0 where
  pub first : OpenNow
  pub last : OpenNow
  pub opens : opened first last
  pub does : done first last

-- this keeper and this target were open at first
abbrev pub OpensOn : KeeperNow → TargetNow → OpenNow → OpenNow → Type 0
OpensOn keeper target first last = first ≡ record { keeper = keeper; target = target }

-- ---- what was just made

abbrev pub is_folder_kind : TargetKind → Bool
is_folder_kind (Dir path) = true
is_folder_kind kind = false

-- a keeper that was just made: one in memory tells that it keeps nothing, one in a file tells nothing
abbrev pub new_keeper : Profile → KeeperNow
new_keeper Memory = record {
  kept = Some (record { tables = new_tables; blobs = [] });
  faults = 0;
}
new_keeper (File path) = record { kept = None; faults = 0 }

-- so is a target: one in memory tells that it holds nothing, a folder and a server tell nothing
abbrev pub new_target : TargetKind → TargetNow
new_target Mem = record { store = Some (memory_at 0 1).store; faults = 0 }
new_target (Dir path) = record { store = None; faults = 0 }
new_target (Dav address) = record { store = None; faults = 0 }
new_target (WebDav name) = record { store = None; faults = 0 }

-- what a server is given for a user, if there is one
abbrev pub credentials_of : Option (List ℕ) → List ℕ → Option (List ℕ)
credentials_of None password = None
credentials_of (Some user) password = Some (basic_credentials user password)

-- a keeper of this profile and a target of this kind were open at first, which were just made
abbrev pub OpensNew : Profile → TargetKind → OpenNow → OpenNow → Type 0
OpensNew profile kind = OpensOn (new_keeper profile) (new_target kind)
