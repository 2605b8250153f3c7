-- At each place rows and conflict notes stand for what they hold, and files for what they read to.
use Rattle.std.proofs.Common.{◌≡◌, refl, sym, subst, cond, ℕ, List, [], ◌∷◌, ◌++◌, Bool, true, false, Option, Some, None}
use Rattle.std.specs.Prelude.{bytes_eq, All, option_to_list}
use Rattle.std.proofs.lemmas.Bool.{false≢true, and_parts}
use Rattle.std.proofs.lemmas.List.Elements.{All-head, All-tail, All-cons, All-nil}
use Rattle.jop_base.proofs.KeyedLaws.{same_text, bytes_eq-refl}
use Rattle.jop_base.specs.declared.path.Path.{Path}
use Rattle.jop_target.specs.History as target
use Rattle.jop_target.specs.declared.call.Call.{Call}
use Rattle.jop_target.specs.declared.call.Call.TheVariants.{Get}
use Rattle.jop_target.specs.declared.reply.Reply.{Reply}
use Rattle.jop_target.specs.declared.reply.Reply.TheVariants.{Failed}
use Rattle.local_store.specs.Changing.{after_all}
use Rattle.local_store.specs.Sound.{IsAllowed}
use Rattle.local_store.specs.Tale.{TaleStep, IsBeside, IsToldStep, changes_of}
use Rattle.local_store.specs.declared.change.Change.{Change}
use Rattle.local_store.specs.declared.tables.Tables.{Tables}
use Rattle.law_licences.specs.Checks.{is_file_of, last_on}
use Rattle.law_licences.specs.Deeds.{Deed, deed_by, deeds_in}
use Rattle.law_licences.specs.Licences.{MayDo, Each, ObeysData}
use Rattle.law_licences.specs.Views.{View, Stage, Outside, Working, seen, view_from}
use Rattle.law_kept.proofs.Places.{file_bytes-file_after}
use Rattle.law_kept.specs.Acts.{Act, Gets, Elsewhere, FileStep, Version}
use Rattle.law_kept.specs.Fair.{file_bytes}
use Rattle.law_kept.specs.Honest.{bytes_after, is_honest, is_honest_from}
use Rattle.law_kept.specs.Standing.{Standing, World, desk_after, desk_beside, stands_after, stands_beside, file_after, happened, world_from}
use Rattle.law_kept.specs.Standing as stand
use Rattle.law_kept.specs.Telling.{answer_told, called, act_of, step_of, steps_told, tables_told, tables_after}
use Rattle.law_kept.specs.Known.{check_by}
use Rattle.law_kept.proofs.TrueCalls.{FileIsTrue, GotIsTrue, IsTrue, get_got, true_called, file_called}
use Rattle.law_kept.proofs.EachChange.{true_changed, file_changed}

-- ---- a step of the client

get_shown : (id : List ℕ) (file : Option Version) (call : Call) (reply : Reply) (landed : Bool)
    (path : Path)
    → FileIsTrue id file → is_honest (file_bytes file) (called id call reply landed) ≡ true
    → call ≡ Get path → is_file_of id path ≡ true
    → GotIsTrue id (check_by (Get path) (Some reply)) (stand.file_item file)
get_shown id file call reply landed path f honest is on =
    let gets = subst
    (λ (k : Call). is_honest (file_bytes file) (called id k reply landed) ≡ true) is honest in
    get_got id path reply file f
    (subst
    (λ (b : Bool). is_honest (file_bytes file) (cond b (Gets (answer_told reply)) Elsewhere) ≡ true)
    on gets)

-- a session begins, or is over, without a check
true_quiet : (id : List ℕ) (v : View) (t : Tables) (s : Standing) (stage : Stage) (crossed : Bool)
    → IsTrue id v t s
    → IsTrue id (record v { calls = []; shown = None; stage = stage }) t
    (record s { crossed = crossed })
unfolding last_on
true_quiet id v t s stage crossed h =
    record {
      same = h.same;
      sound = h.sound;
      row = h.row;
      copies = h.copies;
      got = tt;
      keyless = h.keyless;
    }

true_next : (id : List ℕ) (v : View) (t : Tables) (s : Standing) (file : Option Version)
    (x : target.Happening) (c : Option Change)
    → IsTrue id v t s → FileIsTrue id file → IsBeside x c → MayDo v (deed_by x c)
    → All IsAllowed (option_to_list c)
    → is_honest (file_bytes file) (act_of id t.next_conflict x c) ≡ true
    → IsTrue id (seen v (deed_by x c)) (tables_told t c)
    (stands_after file s (act_of id t.next_conflict x c))
true_next id v t s file (target.Answered call reply landed) None h f beside may allowed honest =
    true_called id v t s file call (Some reply) reply landed h
    (λ path told is on. get_shown id file call reply landed path f told is on) honest
true_next id v t s file (target.Unheard call landed) None h f beside may allowed honest =
    true_called id v t s file call None Failed landed h (λ path told is on. tt) honest
true_next id v t s file (target.Changed number) (Some c) h f beside may allowed honest =
    true_changed id v t s file c h may (All-head IsAllowed c [] allowed)
true_next id v t s file target.Begins None h f beside may allowed honest =
    true_quiet id v t s Working false h
true_next id v t s file target.Ends None h f beside may allowed honest =
    true_quiet id v t s Outside s.crossed h
true_next id v t s file target.Stopped None h f beside may allowed honest =
    true_quiet id v t s Outside s.crossed h
true_next id v t s file (target.Changed number) None h f beside may allowed honest = absurd beside
true_next id v t s file (target.Answered call reply landed) (Some c) h f beside may allowed honest =
    absurd beside
true_next id v t s file (target.Unheard call landed) (Some c) h f beside may allowed honest =
    absurd beside
true_next id v t s file target.Begins (Some c) h f beside may allowed honest = absurd beside
true_next id v t s file target.Ends (Some c) h f beside may allowed honest = absurd beside
true_next id v t s file target.Stopped (Some c) h f beside may allowed honest = absurd beside

file_true_next : (id : List ℕ) (v : View) (t : Tables) (s : Standing) (file : Option Version)
    (x : target.Happening) (c : Option Change)
    → IsTrue id v t s → FileIsTrue id file → MayDo v (deed_by x c)
    → FileIsTrue id (file_after s.row file (act_of id t.next_conflict x c))
file_true_next id v t s file (target.Answered call reply landed) c h f may =
    file_called id v t s file call reply landed h f may.1
file_true_next id v t s file (target.Unheard call landed) c h f may =
    file_called id v t s file call Failed landed h f may.1
file_true_next id v t s file (target.Changed number) (Some c) h f may =
    subst (FileIsTrue id) (sym (file_changed id t.next_conflict s.row file c)) f
file_true_next id v t s file (target.Changed number) None h f may = f
file_true_next id v t s file target.Begins c h f may = f
file_true_next id v t s file target.Ends c h f may = f
file_true_next id v t s file target.Stopped c h f may = f

-- ---- all clients

-- what is seen of each client after a step
abbrev views_after : (List ℕ → View) → TaleStep → List ℕ → View
views_after vs s client =
    cond (bytes_eq s.step.client client) (seen (vs client) (deed_by s.step.happens s.change))
    (vs client)

abbrev AllTrue : List ℕ → World → (List ℕ → View) → (List ℕ → Tables) → Type 0
AllTrue id w vs ts = (client : List ℕ) → IsTrue id (vs client) (ts client) (w.at client).stands

first_may : (v : View) (d : Deed) (ds : List Deed) (mine : Bool) → mine ≡ true
    → ObeysData v (cond mine (d ∷ ds) ds) → MayDo v d
unfolding Each
first_may v d ds true is may = may.0
first_may v d ds false is may = absurd (false≢true is)

rest_may : (v : View) (d : Deed) (ds : List Deed) (mine : Bool)
    → ObeysData v (cond mine (d ∷ ds) ds) → ObeysData (cond mine (seen v d) v) ds
unfolding Each
rest_may v d ds true may = may.1
rest_may v d ds false may = may

first_allowed : (c : Option Change) (cs : List Change) (mine : Bool) → mine ≡ true
    → All IsAllowed (cond mine (option_to_list c) [] ++ cs) → All IsAllowed (option_to_list c)
first_allowed None cs mine is all = All-nil IsAllowed
first_allowed (Some c) cs true is all =
    All-cons IsAllowed c [] (All-head IsAllowed c cs all) (All-nil IsAllowed)
first_allowed (Some c) cs false is all = absurd (false≢true is)

rest_allowed : (c : Option Change) (cs : List Change) (mine : Bool)
    → All IsAllowed (cond mine (option_to_list c) [] ++ cs) → All IsAllowed cs
rest_allowed None cs true all = all
rest_allowed None cs false all = all
rest_allowed (Some c) cs true all = All-tail IsAllowed c cs all
rest_allowed (Some c) cs false all = all

-- what is seen then, and the tables, told from before the step
view_told : (v : View) (d : Deed) (ds : List Deed) (mine : Bool)
    → view_from (cond mine (seen v d) v) ds ≡ view_from v (cond mine (d ∷ ds) ds)
unfolding view_from
view_told v d ds true = refl
view_told v d ds false = refl

tables_then : (t : Tables) (c : Option Change) (cs : List Change) (mine : Bool)
    → after_all (cond mine (tables_told t c) t) cs
    ≡ after_all t (cond mine (option_to_list c) [] ++ cs)
unfolding after_all
tables_then t None cs true = refl
tables_then t None cs false = refl
tables_then t (Some c) cs true = refl
tables_then t (Some c) cs false = refl

true_beside : (id : List ℕ) (v : View) (t : Tables) (s : Standing) (act : Act)
    → IsTrue id v t s → IsTrue id v t (stands_beside s act)
true_beside id v t s act h =
    record {
      same = h.same;
      sound = h.sound;
      row = h.row;
      copies = h.copies;
      got = h.got;
      keyless = h.keyless;
    }

all_next : (id : List ℕ) (w : World) (vs : List ℕ → View) (ts : List ℕ → Tables) (s : TaleStep)
    → AllTrue id w vs ts
    → IsTrue id (seen (vs s.step.client) (deed_by s.step.happens s.change))
    (tables_told (ts s.step.client) s.change)
    (stands_after w.file (w.at s.step.client).stands
    (act_of id (ts s.step.client).next_conflict s.step.happens s.change))
    → AllTrue id (happened w (step_of id (ts s.step.client).next_conflict s)) (views_after vs s)
    (tables_after ts s)
all_next id w vs ts s h own client = by (bytes_eq s.step.client client) refl where
  by : (mine : Bool) → bytes_eq s.step.client client ≡ mine
      → IsTrue id
      (cond mine (seen (vs client) (deed_by s.step.happens s.change)) (vs client))
      (cond mine (tables_told (ts client) s.change) (ts client))
      (cond mine
      (desk_after w.file (w.at client)
      (act_of id (ts s.step.client).next_conflict s.step.happens s.change))
      (desk_beside (w.at client)
      (act_of id (ts s.step.client).next_conflict s.step.happens s.change))).stands
  by true is =
      subst
      (λ (k : List ℕ). IsTrue id (seen (vs k) (deed_by s.step.happens s.change))
      (tables_told (ts k) s.change)
      (stands_after w.file (w.at k).stands
      (act_of id (ts s.step.client).next_conflict s.step.happens s.change)))
      (same_text s.step.client client is) own
  by false isnt =
      true_beside id (vs client) (ts client) (w.at client).stands
      (act_of id (ts s.step.client).next_conflict s.step.happens s.change) (h client)

pub true_from : (id client : List ℕ) (w : World) (vs : List ℕ → View) (ts : List ℕ → Tables)
    (ss : List TaleStep)
    → AllTrue id w vs ts → FileIsTrue id w.file
    → ((c : List ℕ) → ObeysData (vs c) (deeds_in c ss)) → All IsToldStep ss
    → ((c : List ℕ) → All IsAllowed (changes_of c ss))
    → is_honest_from (file_bytes w.file) (steps_told id ts ss) ≡ true
    → IsTrue id (view_from (vs client) (deeds_in client ss))
    (after_all (ts client) (changes_of client ss))
    ((world_from w (steps_told id ts ss)).at client).stands
unfolding view_from deeds_in after_all changes_of world_from steps_told is_honest_from
true_from id client w vs ts [] h f may told allowed honest = h client
true_from id client w vs ts (s ∷ ss) h f may told allowed honest =
    let me : List ℕ = s.step.client in
    let x = s.step.happens in
    let c = s.change in
    let v : View = vs me in
    let t : Tables = ts me in
    let act : Act = act_of id t.next_conflict x c in
    let step : FileStep = step_of id t.next_conflict s in
    let d : Deed = deed_by x c in
    let here = and_parts (is_honest (file_bytes w.file) act)
    (is_honest_from (bytes_after (file_bytes w.file) act) (steps_told id (tables_after ts s) ss))
    honest in
    let mine = bytes_eq-refl me in
    let may_here = first_may v d (deeds_in me ss) (bytes_eq me me) mine (may me) in
    let allow = first_allowed c (changes_of me ss) (bytes_eq me me) mine (allowed me) in
    let own = true_next id v t (w.at me).stands w.file x c (h me) f
    (All-head IsToldStep s ss told) may_here allow here.0 in
    let file = file_true_next id v t (w.at me).stands w.file x c (h me) f may_here in
    let same = file_bytes-file_after (w.at me).stands.row w.file act in
    let rest = true_from id client (happened w step) (views_after vs s) (tables_after ts s) ss
    (all_next id w vs ts s h own) file
    (λ k. rest_may (vs k) d (deeds_in k ss) (bytes_eq me k) (may k))
    (All-tail IsToldStep s ss told)
    (λ k. rest_allowed c (changes_of k ss) (bytes_eq me k) (allowed k))
    (subst
    (λ (b : Option (List ℕ)). is_honest_from b (steps_told id (tables_after ts s) ss) ≡ true)
    (sym same) here.1) in
    let z : Standing =
    ((world_from (happened w step) (steps_told id (tables_after ts s) ss)).at client).stands in
    let seen_so = subst
    (λ (u : View). IsTrue id u
    (after_all (tables_after ts s client) (changes_of client ss)) z)
    (view_told (vs client) d (deeds_in client ss) (bytes_eq me client)) rest in
    subst
    (λ (u : Tables). IsTrue id
    (view_from (vs client)
    (cond (bytes_eq me client) (d ∷ deeds_in client ss) (deeds_in client ss)))
    u z)
    (tables_then (ts client) c (changes_of client ss) (bytes_eq me client)) seen_so
