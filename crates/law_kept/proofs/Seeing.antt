-- What is seen of a client after a step says what it knows of an item then.
use Rattle.std.proofs.Common.{sym, ◌≡◌, ◌∙◌, refl, ap, cond, ℕ, List, [], ◌∷◌, Bool, true, false, Option, Some, None}
use Rattle.std.specs.Prelude.{bytes_eq}
use Rattle.jop_base.specs.Keyed.{at}
use Rattle.jop_target.specs.History as target
use Rattle.jop_target.specs.declared.call.Call.{Call}
use Rattle.jop_target.specs.declared.call.Call.TheVariants.{List as ListDir, Get, Put, Delete, MakeDir, GetBlob, PutBlob}
use Rattle.jop_target.specs.declared.reply.Reply.{Reply}
use Rattle.jop_target.specs.declared.reply.Reply.TheVariants.{Failed}
use Rattle.local_store.specs.Changing.{after}
use Rattle.local_store.specs.Tale.{TaleStep}
use Rattle.local_store.specs.declared.change.Change.{Change}
use Rattle.local_store.specs.declared.change.Change.TheVariants.{ContextIs}
use Rattle.local_store.specs.declared.tables.Tables.{Tables}
use Rattle.law_licences.specs.Checks.{is_file_of, is_on, last_on}
use Rattle.law_licences.specs.Deeds.{Deed, Begins, Asks, Makes, MakesUntold, Ends, Stops, deed_by, deeds_in}
use Rattle.law_licences.specs.Licences.{MayMakeAt, MayMake, MayDo, MayDoBySome, Each, ObeysBySome}
use Rattle.law_licences.proofs.Keyed.{seen_keyed, with_keys}
use Rattle.law_licences.specs.Views.{Heard, View, Stage, Outside, Working, Finished, view_after_call, seen, stage_after, view_from}
use Rattle.law_licences.specs.Views as views
use Rattle.law_kept.specs.Acts.{Act, Gets, Puts, Deletes, Elsewhere}
use Rattle.law_kept.specs.Acts as acts
use Rattle.law_kept.specs.Own.{Check, Own, new_own, session_checked, own_after, acts_by, own_from}
use Rattle.law_kept.specs.Telling.{answer_told, was_done, called, change_told, act_of, steps_told, tables_after}
use Rattle.law_kept.specs.FairTables.{new_view}
use Rattle.law_kept.specs.Known.{check_by, check_known, session_known, tables_known, known}
use Rattle.local_store.proofs.Keeping.{IsOrdered, ordered_after}
use Rattle.law_kept.proofs.Calls.{last_heard}
use Rattle.law_kept.proofs.EachChange.{change_known}

-- ---- calls

session_next : (stage : Stage) (old new : Check)
    → session_known stage new ≡ session_checked (session_known stage old) new
session_next Outside old new = refl
session_next Working old new = refl
session_next Finished old new = refl

-- what is known if this is the last call on the file, or if the one before stays it
abbrev known_if : List ℕ → View → Heard → Bool → Own
known_if id v h on =
    tables_known id v.tables
    (session_known v.stage (check_known (cond on (Some h) (last_on id v.calls))))

known_heard : (id : List ℕ) (v : View) (call : Call) (reply : Option Reply)
    → known id (view_after_call v call reply)
    ≡ known_if id v (record { call = call; reply = reply }) (is_on id call)
known_heard id v call reply =
    ap
    (λ (last : Option Heard). tables_known id v.tables (session_known v.stage (check_known last)))
    (last_heard id call reply v.calls)

-- the check is this one then
check_known_next : (id : List ℕ) (v : View) (h : Heard)
    → known_if id v h true
    ≡ record (known id v) {
      session = session_checked (known id v).session (check_by h.call h.reply);
    }
check_known_next id v h =
    ap (tables_known id v.tables)
    (session_next v.stage (check_known (last_on id v.calls)) (check_by h.call h.reply))

known_asked : (id : List ℕ) (v : View) (call : Call) (reply : Reply) (landed : Bool)
    → known_if id v (record { call = call; reply = Some reply }) (is_on id call)
    ≡ own_after (known id v) (called id call reply landed)
known_asked id v (Get path) reply landed = by (is_file_of id path) where
  by : (its : Bool)
      → known_if id v (record { call = Get path; reply = Some reply }) its
      ≡ own_after (known id v) (cond its (Gets (answer_told reply)) Elsewhere)
  by true = check_known_next id v (record { call = Get path; reply = Some reply })
  by false = refl
known_asked id v (Put path bytes) reply landed = by (is_file_of id path) where
  by : (its : Bool)
      → known_if id v (record { call = Put path bytes; reply = Some reply }) its
      ≡ own_after (known id v) (cond its (Puts bytes landed (was_done reply)) Elsewhere)
  by true = check_known_next id v (record { call = Put path bytes; reply = Some reply })
  by false = refl
known_asked id v (Delete path) reply landed = by (is_file_of id path) where
  by : (its : Bool)
      → known_if id v (record { call = Delete path; reply = Some reply }) its
      ≡ own_after (known id v) (cond its (Deletes landed) Elsewhere)
  by true = check_known_next id v (record { call = Delete path; reply = Some reply })
  by false = refl
known_asked id v (ListDir dir) reply landed = refl
known_asked id v (MakeDir dir) reply landed = refl
known_asked id v (GetBlob other) reply landed = refl
known_asked id v (PutBlob other len) reply landed = refl

-- a call that wasn't heard comes to what one that failed does
unheard_check : (call : Call) → check_by call None ≡ check_by call (Some Failed)
unheard_check (Get path) = refl
unheard_check (Put path bytes) = refl
unheard_check (Delete path) = refl
unheard_check (ListDir dir) = refl
unheard_check (MakeDir dir) = refl
unheard_check (GetBlob other) = refl
unheard_check (PutBlob other len) = refl

known_unheard : (id : List ℕ) (v : View) (call : Call) (on : Bool)
    → known_if id v (record { call = call; reply = None }) on
    ≡ known_if id v (record { call = call; reply = Some Failed }) on
known_unheard id v call true =
    ap (λ (c : Check). tables_known id v.tables (session_known v.stage c)) (unheard_check call)
known_unheard id v call false = refl

-- ---- changes

-- a session's last change leaves it a session
session_after : (stage : Stage) (v : View) (c : Change) (check : Check) → MayMakeAt stage v c
    → session_known (stage_after stage c) check ≡ session_known stage check
session_after Outside v (ContextIs context) check may = absurd may
session_after Working v (ContextIs context) check may = refl
session_after Finished v (ContextIs context) check may = refl
session_after stage v c check may = refl

known_changed : (id : List ℕ) (next : ℕ) (v : View) (c : Change) → IsOrdered v.tables
    → MayMake v c → known id (views.view_after_change v c)
    ≡ own_after (known id v) (change_told id next c)
known_changed id next v c o may =
    let check = check_known (last_on id v.calls) in
    ap (tables_known id (after v.tables c)) (session_after v.stage v c check may)
    ∙ change_known v.tables id next (session_known v.stage check) c o

-- ---- a step

-- a session known_begun without a check
known_begun : (id : List ℕ) (v : View) → known id (seen v Begins) ≡ own_after (known id v) acts.Begins
unfolding last_on
known_begun id v = refl

pub known_next : (id : List ℕ) (next : ℕ) (v : View) (x : target.Happening) (c : Option Change)
    → IsOrdered v.tables → MayDo v (deed_by x c)
    → known id (seen v (deed_by x c)) ≡ own_after (known id v) (act_of id next x c)
known_next id next v (target.Answered call reply landed) c o may =
    known_heard id v call (Some reply) ∙ known_asked id v call reply landed
known_next id next v (target.Unheard call landed) c o may =
    known_heard id v call None
    ∙ (known_unheard id v call (is_on id call) ∙ known_asked id v call Failed landed)
known_next id next v (target.Changed number) None o may = refl
known_next id next v (target.Changed number) (Some c) o may = known_changed id next v c o may
known_next id next v target.Begins c o may = known_begun id v
known_next id next v target.Ends c o may = refl
known_next id next v target.Stopped c o may = refl

pub known_by_some : (id : List ℕ) (next : ℕ) (v : View) (x : target.Happening) (c : Option Change)
    → IsOrdered v.tables → MayDoBySome v (deed_by x c)
    → known id (seen v (deed_by x c)) ≡ own_after (known id v) (act_of id next x c)
known_by_some id next v x c o may =
    ap (known id) (sym (seen_keyed may.0 v (deed_by x c)))
    ∙ known_next id next (with_keys may.0 v) x c o may.1

pub ordered_seen : (v : View) (d : Deed) → IsOrdered v.tables → IsOrdered (seen v d).tables
ordered_seen v Begins o = o
ordered_seen v (Asks call reply) o = o
ordered_seen v (Makes c) o = ordered_after v.tables c o
ordered_seen v MakesUntold o = o
ordered_seen v Ends o = o
ordered_seen v Stops o = o

-- ---- all steps

-- the client does this step, or another one does
known_if_mine : (id : List ℕ) (next : ℕ) (v : View) (s : TaleStep) (ds : List Deed)
    (rest : List Act) (mine : Bool)
    → IsOrdered v.tables
    → ((u : View) → IsOrdered u.tables → ObeysBySome u ds
    → known id (view_from u ds) ≡ own_from (known id u) rest)
    → ObeysBySome v (cond mine (deed_by s.step.happens s.change ∷ ds) ds)
    → known id (view_from v (cond mine (deed_by s.step.happens s.change ∷ ds) ds))
    ≡ own_from (known id v) (cond mine (act_of id next s.step.happens s.change ∷ rest) rest)
unfolding Each view_from own_from
known_if_mine id next v s ds rest true o later may =
    let d : Deed = deed_by s.step.happens s.change in
    later (seen v d) (ordered_seen v d o) may.1
    ∙ ap (λ (own : Own). own_from own rest)
    (known_by_some id next v s.step.happens s.change o may.0)
known_if_mine id next v s ds rest false o later may = later v o may

pub known_from : (id client : List ℕ) (clients : List ℕ → Tables) (v : View) (ss : List TaleStep)
    → IsOrdered v.tables → ObeysBySome v (deeds_in client ss)
    → known id (view_from v (deeds_in client ss))
    ≡ own_from (known id v) (acts_by client (steps_told id clients ss))
unfolding view_from deeds_in own_from acts_by steps_told
known_from id client clients v [] o may = refl
known_from id client clients v (s ∷ ss) o may =
    known_if_mine id (clients s.step.client).next_conflict v s (deeds_in client ss)
    (acts_by client (steps_told id (tables_after clients s) ss)) (bytes_eq s.step.client client) o
    (λ u. known_from id client (tables_after clients s) u ss) may

pub known_new : (id : List ℕ) → known id new_view ≡ new_own
unfolding last_on at
known_new id = refl
