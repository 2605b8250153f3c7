-- What an `Aes` holds.
use Rattle.std.specs.Prelude.{ℕ, ◌≡◌, ◌+◌, ◌-◌, ◌*◌, true, List, length, take}
use Rattle.aes_ccm.specs.Aes.{is_key_len, rounds_of, schedule}
use Rattle.aes_ccm.specs.declared.aes.Aes.TheInside.{Inside}

-- the key stands first among the words
abbrev pub scheduled_key : Inside → List ℕ
scheduled_key a = take (4 * (a.rounds - 6)) a.words

-- the words of the key's schedule
pub record IsSchedule (a : Inside) : Type 0 where
  pub long : is_key_len (length (scheduled_key a)) ≡ true
  pub rounds : a.rounds ≡ rounds_of (scheduled_key a)
  pub words : take (16 * (a.rounds + 1)) a.words ≡ schedule (scheduled_key a)
