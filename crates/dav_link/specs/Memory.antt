-- What a link in memory tells.
use Rattle.std.specs.Prelude.{ℕ, ◌≡◌, List, Some}
use Rattle.jop_outside.specs.Plan.{Calls}
use Rattle.dav_link.specs.Links.{LinkNow}

-- what is left to read of a link in memory, what was written to it, how often it was opened, how often
-- it has failed, how often for want of memory alone, and which calls are to fail
pub record LinkMemory : Type 0 where
  pub left : List ℕ
  pub written : List ℕ
  pub opened : ℕ
  pub faults : ℕ
  pub starved : ℕ
  pub plan : Calls

-- what it tells as a link
abbrev pub link_of : LinkMemory → LinkNow
link_of link = record {
  left = Some link.left;
  written = Some link.written;
  opened = link.opened;
  faults = link.faults;
}

-- to keep bytes changes nothing but what was written and how often there was no memory
pub record KeepsAlone (old new : LinkMemory) : Type 0 where
  pub left : new.left ≡ old.left
  pub opened : new.opened ≡ old.opened
  pub faults : new.faults ≡ old.faults
  pub plan : new.plan ≡ old.plan
