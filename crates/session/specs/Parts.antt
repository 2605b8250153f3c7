-- Parts of a session, and how they are put together: a session is a sentence over a few words.
use Rattle.std.specs.Prelude.{◌≡◌, List, [], ◌∷◌, ◌++◌, Some, if◌then◌else◌}
use Rattle.jop_target.specs.declared.call.Call.{Call}
use Rattle.jop_target.specs.declared.reply.Reply.{Reply}
use Rattle.law_licences.specs.Deeds.{Deed, Asks, Makes}
use Rattle.law_licences.specs.Views.{View, is_about_locks, view_from}
use Rattle.local_store.specs.declared.change.Change.{Change}

-- what may be seen before, and what is done then
abbrev pub Part : Type 1
Part = View → List Deed → Type 0

-- ---- words

-- whatever is done
abbrev pub Any : Part
Any v ds = Unit {0}

abbrev pub Nothing : Part
Nothing v ds = ds ≡ []

-- a call, and its reply
abbrev pub Hears : Call → Reply → Part
Hears call reply v ds = ds ≡ Asks call (Some reply) ∷ []

-- a change
abbrev pub Changes : Change → Part
Changes change v ds = ds ≡ Makes change ∷ []

-- ---- sentences

-- one part, and then another
pub record Then (P Q : Part) (v : View) (ds : List Deed) : Type 0 where
  pub first : List Deed
  pub second : List Deed
  pub both : ds ≡ first ++ second
  pub before : P v first
  pub behind : Q (view_from v first) second

-- a part for each of a list, one after the other
unfoldable pub ForEach : {A : Type 0} → (A → Part) → List A → Part
ForEach P [] = Nothing
ForEach P (x ∷ xs) = Then (P x) (ForEach P xs)

-- ---- what counts

abbrev pub with_deed : Deed → List Deed → List Deed
with_deed (Asks call reply) ds = if is_about_locks call then ds else Asks call reply ∷ ds
with_deed deed ds = deed ∷ ds

-- the deeds but the calls about locks, which a lease makes by itself
unfoldable pub but_locks : List Deed → List Deed
but_locks [] = []
but_locks (d ∷ ds) = with_deed d (but_locks ds)
