-- The licence of conflicts.
use Rattle.std.specs.Prelude.{ℕ, ◌≡◌, List, Bool, Option}
use Rattle.jop_target.specs.declared.reply.Reply.{Reply}
use Rattle.local_store.specs.declared.content.Content.{Content}
use Rattle.local_store.specs.declared.row.Row.{Row}
use Rattle.law_licences.specs.Checks.{IsOther, IsPending, WasGot}
use Rattle.law_licences.specs.Copies.{copies_for}
use Rattle.law_licences.specs.Views.{View}

-- A row with a change gives way to another file than the client left, or to none if that is gone. Its text becomes a
-- conflict note exactly if it would be lost.
pub record MayConflict (v : View) (id : List ℕ) (remote : Option (List ℕ × Content)) (copies : Bool)
    : Type 0 where
  pub row : Row
  pub reply : Reply
  pub pending : IsPending v id row
  pub check : WasGot v id reply
  pub other : IsOther v.sealing id row.base reply remote
  pub copied : copies ≡ copies_for row.content remote
