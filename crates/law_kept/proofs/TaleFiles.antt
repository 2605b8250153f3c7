-- An honest store is honest about each item, and what it holds of the item is what the item's history says.
use Rattle.std.proofs.Common.{◌≡◌, ◌∙◌, refl, sym, ap, subst, cond, ℕ, zero, suc, List, [], ◌∷◌, length, Bool, true, false, Option, Some, None, nat_lt}
use Rattle.std.specs.Prelude.{take, option_map}
use Rattle.std.proofs.lemmas.Bool.{and_from}
use Rattle.jop_base.proofs.KeyedLaws.{bytes_eq-refl}
use Rattle.jop_base.specs.Id.{IsIdText}
use Rattle.jop_base.specs.Keyed.{IsSorted}
use Rattle.jop_base.specs.declared.path.Path.{Path}
use Rattle.jop_target.specs.History as target
use Rattle.jop_target.specs.History.{IsHonestReply, IsHonestFrom, landed_call, tree_with, tree_from}
use Rattle.jop_target.specs.Store.{file_key, file_at, got, got_content, limit_of, reply_of}
use Rattle.jop_target.specs.declared.call.Call.{Call}
use Rattle.jop_target.specs.declared.call.Call.TheVariants.{List as ListDir, Get, Put, Delete, MakeDir, GetBlob, PutBlob}
use Rattle.jop_target.specs.declared.reply.Reply.{Reply}
use Rattle.jop_target.specs.declared.reply.Reply.TheVariants.{Listed, Got, GotBlob, Absent, Done, Failed, TooLarge}
use Rattle.jop_target.specs.declared.tree.Content.{Content}
use Rattle.jop_target.specs.declared.tree.Content.TheVariants.{Whole, Sized}
use Rattle.jop_target.specs.declared.tree.File.{File}
use Rattle.jop_target.specs.declared.tree.Tree.{Tree}
use Rattle.local_store.specs.Tables.{new_tables}
use Rattle.local_store.specs.Tale.{Tale, TaleStep, plain_steps}
use Rattle.local_store.specs.declared.change.Change.{Change}
use Rattle.local_store.specs.declared.tables.Tables.{Tables}
use Rattle.law_kept.specs.Acts.{ItemChange, Act, Gets, Puts, Deletes, Elsewhere, FileStep}
use Rattle.law_kept.specs.Fair.{StandsAsRead, file_bytes, IsFair}
use Rattle.law_kept.specs.Honest.{bytes_after, is_honest, is_honest_from}
use Rattle.law_licences.specs.Items.{item_of_file}
use Rattle.law_kept.specs.Standing.{World, opening_world, happened, world_from}
use Rattle.law_licences.specs.Checks.{is_file_of}
use Rattle.law_kept.specs.Telling.{content_bytes, bytes_at, opening_version, answer_told, was_done, called, change_act, item_change, change_told, act_of, step_of, tables_after, steps_told, history_of, IsFairFor, IsTreesFile}
use Rattle.law_kept.proofs.Places.{file_bytes-file_after}
use Rattle.law_kept.proofs.TreeFiles.{file_at-its, effect, bytes_after_call, sorted_after}

-- ---- what is answered

whole_shown : (now limit shown : ℕ) (bytes : List ℕ) (c : Content)
    → Got shown bytes ≡ got_content now limit c → Some (content_bytes c) ≡ Some bytes
whole_shown now limit shown bytes (Sized len) same = cc
whole_shown now limit shown bytes (Whole found) same = by (nat_lt limit (length found)) same where
  by : (large : Bool) → Got shown bytes ≡ cond large (TooLarge (length found)) (Got now found)
      → Some found ≡ Some bytes
  by true same = cc
  by false same = cc

shown : (now limit moment : ℕ) (bytes : List ℕ) (file : Option File)
    → Got moment bytes ≡ got now limit file → option_map (λ f. content_bytes f.content) file ≡ Some bytes
shown now limit moment bytes None same = cc
shown now limit moment bytes (Some f) same = whole_shown now limit moment bytes f.content same

whole_missing : (now limit moment : ℕ) (c : Content) → Absent moment ≡ got_content now limit c → ⊥
whole_missing now limit moment (Sized len) same = cc
whole_missing now limit moment (Whole found) same = by (nat_lt limit (length found)) same where
  by : (large : Bool) → Absent moment ≡ cond large (TooLarge (length found)) (Got now found) → ⊥
  by true same = cc
  by false same = cc

missing : (now limit moment : ℕ) (file : Option File) → Absent moment ≡ got now limit file
    → option_map (λ f. content_bytes f.content) file ≡ None
missing now limit moment None same = refl
missing now limit moment (Some f) same = absurd (whole_missing now limit moment f.content same)

honest_get : (id : List ℕ) (tree : Tree) (moment : ℕ) (path : Path) (reply : Reply) (landed : Bool)
    → is_file_of id path ≡ true
    → IsHonestReply tree moment (target.Answered (Get path) reply landed)
    → is_honest (bytes_at id tree.files) (Gets (answer_told reply)) ≡ true
unfolding reply_of
honest_get id tree moment path (Got now bytes) landed its honest =
    let there = shown honest.1.0 (limit_of path) now bytes (file_at tree.files path) honest.1.2 in
    let same =
    ap (option_map (λ (f : File). content_bytes f.content)) (file_at-its id tree.files path its) in
    rw (sym same ∙ there) (bytes_eq-refl bytes)
honest_get id tree moment path (Absent now) landed its honest =
    let there = missing honest.1.0 (limit_of path) now (file_at tree.files path) honest.1.2 in
    let same =
    ap (option_map (λ (f : File). content_bytes f.content)) (file_at-its id tree.files path its) in
    rw (sym same ∙ there) refl
honest_get id tree moment path (Listed listing) landed its honest = refl
honest_get id tree moment path (GotBlob now len) landed its honest = refl
honest_get id tree moment path (Done now) landed its honest = refl
honest_get id tree moment path Failed landed its honest = refl
honest_get id tree moment path (TooLarge len) landed its honest = refl

honest_put : (file : Option (List ℕ)) (tree : Tree) (moment : ℕ) (path : Path) (bytes : List ℕ)
    (reply : Reply) (landed : Bool)
    → IsHonestReply tree moment (target.Answered (Put path bytes) reply landed)
    → is_honest file (Puts bytes landed (was_done reply)) ≡ true
honest_put file tree moment path bytes (Done now) landed honest = honest.0
honest_put file tree moment path bytes (Got now found) landed honest = refl
honest_put file tree moment path bytes (Absent now) landed honest = refl
honest_put file tree moment path bytes (Listed listing) landed honest = refl
honest_put file tree moment path bytes (GotBlob now len) landed honest = refl
honest_put file tree moment path bytes Failed landed honest = refl
honest_put file tree moment path bytes (TooLarge len) landed honest = refl

honest_called : (id : List ℕ) (tree : Tree) (moment : ℕ) (call : Call) (reply : Reply)
    (landed : Bool)
    → IsHonestReply tree moment (target.Answered call reply landed)
    → is_honest (bytes_at id tree.files) (called id call reply landed) ≡ true
honest_called id tree moment (Get path) reply landed honest = by (is_file_of id path) refl where
  by : (its : Bool) → is_file_of id path ≡ its
      → is_honest (bytes_at id tree.files) (cond its (Gets (answer_told reply)) Elsewhere) ≡ true
  by true is = honest_get id tree moment path reply landed is honest
  by false isnt = refl
honest_called id tree moment (Put path bytes) reply landed honest = by (is_file_of id path) where
  by : (its : Bool)
      → is_honest (bytes_at id tree.files) (cond its (Puts bytes landed (was_done reply)) Elsewhere)
      ≡ true
  by true = honest_put (bytes_at id tree.files) tree moment path bytes reply landed honest
  by false = refl
honest_called id tree moment (Delete path) reply landed honest = by (is_file_of id path) where
  by : (its : Bool)
      → is_honest (bytes_at id tree.files) (cond its (Deletes landed) Elsewhere) ≡ true
  by true = refl
  by false = refl
honest_called id tree moment (ListDir dir) reply landed honest = refl
honest_called id tree moment (MakeDir dir) reply landed honest = refl
honest_called id tree moment (GetBlob b) reply landed honest = refl
honest_called id tree moment (PutBlob b len) reply landed honest = refl

-- ---- what a change leaves

-- a change calls nothing
abbrev pub IsQuiet : Act → Type 0
IsQuiet act = (file : Option (List ℕ)) → (bytes_after file act ≡ file) × (is_honest file act ≡ true)

quiet_act : (change : Option ItemChange) → IsQuiet (change_act change)
quiet_act None = λ file. (refl, refl)
quiet_act (Some change) = λ file. (refl, refl)

quiet_change : (id : List ℕ) (next : ℕ) (change : Change) → IsQuiet (change_told id next change)
quiet_change id next change = quiet_act (item_change id next change)

-- ---- a step

honest_step : (id : List ℕ) (next : ℕ) (tree : Tree) (moment : ℕ) (x : target.Happening)
    (change : Option Change) → IsHonestReply tree moment x
    → is_honest (bytes_at id tree.files) (act_of id next x change) ≡ true
honest_step id next tree moment (target.Answered call reply landed) change honest =
    honest_called id tree moment call reply landed honest
honest_step id next tree moment (target.Unheard call landed) change honest =
    honest_called id tree moment call Failed landed tt
honest_step id next tree moment (target.Changed number) None honest = refl
honest_step id next tree moment (target.Changed number) (Some change) honest =
    (quiet_change id next change (bytes_at id tree.files)).1
honest_step id next tree moment target.Begins change honest = refl
honest_step id next tree moment target.Ends change honest = refl
honest_step id next tree moment target.Stopped change honest = refl

landed_bytes : (id : List ℕ) (call : Call) (reply : Reply) (file : Option (List ℕ))
    → bytes_after file (called id call reply true) ≡ effect id file call
landed_bytes id (Put path bytes) reply file = by (is_file_of id path) where
  by : (its : Bool)
      → bytes_after file (cond its (Puts bytes true (was_done reply)) Elsewhere)
      ≡ cond its (Some bytes) file
  by true = refl
  by false = refl
landed_bytes id (Delete path) reply file = by (is_file_of id path) where
  by : (its : Bool)
      → bytes_after file (cond its (Deletes true) Elsewhere) ≡ cond its None file
  by true = refl
  by false = refl
landed_bytes id (Get path) reply file = by (is_file_of id path) where
  by : (its : Bool) → bytes_after file (cond its (Gets (answer_told reply)) Elsewhere) ≡ file
  by true = refl
  by false = refl
landed_bytes id (ListDir dir) reply file = refl
landed_bytes id (MakeDir dir) reply file = refl
landed_bytes id (GetBlob b) reply file = refl
landed_bytes id (PutBlob b len) reply file = refl

lost_bytes : (id : List ℕ) (call : Call) (reply : Reply) (file : Option (List ℕ))
    → bytes_after file (called id call reply false) ≡ file
lost_bytes id (Put path bytes) reply file = by (is_file_of id path) where
  by : (its : Bool) → bytes_after file (cond its (Puts bytes false (was_done reply)) Elsewhere)
      ≡ file
  by true = refl
  by false = refl
lost_bytes id (Delete path) reply file = by (is_file_of id path) where
  by : (its : Bool) → bytes_after file (cond its (Deletes false) Elsewhere) ≡ file
  by true = refl
  by false = refl
lost_bytes id (Get path) reply file = by (is_file_of id path) where
  by : (its : Bool) → bytes_after file (cond its (Gets (answer_told reply)) Elsewhere) ≡ file
  by true = refl
  by false = refl
lost_bytes id (ListDir dir) reply file = refl
lost_bytes id (MakeDir dir) reply file = refl
lost_bytes id (GetBlob b) reply file = refl
lost_bytes id (PutBlob b len) reply file = refl

-- what the tree holds of the item after a step is what the item's own step leaves
bytes_step : (id : List ℕ) (next : ℕ) (tree : Tree) (moment : ℕ) (x : target.Happening)
    (change : Option Change) → IsIdText id → IsSorted file_key tree.files
    → bytes_after (bytes_at id tree.files) (act_of id next x change)
    ≡ bytes_at id (tree_with tree moment (landed_call x)).files
bytes_step id next tree moment (target.Answered call reply true) change is sorted =
    landed_bytes id call reply (bytes_at id tree.files)
    ∙ sym (bytes_after_call id tree moment call is sorted)
bytes_step id next tree moment (target.Unheard call true) change is sorted =
    landed_bytes id call Failed (bytes_at id tree.files)
    ∙ sym (bytes_after_call id tree moment call is sorted)
bytes_step id next tree moment (target.Answered call reply false) change is sorted =
    lost_bytes id call reply (bytes_at id tree.files)
bytes_step id next tree moment (target.Unheard call false) change is sorted =
    lost_bytes id call Failed (bytes_at id tree.files)
bytes_step id next tree moment (target.Changed number) None is sorted = refl
bytes_step id next tree moment (target.Changed number) (Some change) is sorted =
    (quiet_change id next change (bytes_at id tree.files)).0
bytes_step id next tree moment target.Begins change is sorted = refl
bytes_step id next tree moment target.Ends change is sorted = refl
bytes_step id next tree moment target.Stopped change is sorted = refl

-- ---- all steps

honest_from : (id : List ℕ) (clients : List ℕ → Tables) (tree : Tree) (now : ℕ)
    (ss : List TaleStep) → IsIdText id → IsSorted file_key tree.files
    → IsHonestFrom tree now (plain_steps ss)
    → is_honest_from (bytes_at id tree.files) (steps_told id clients ss) ≡ true
unfolding is_honest_from steps_told
honest_from id clients tree now [] is sorted honest = refl
honest_from id clients tree now (s ∷ ss) is sorted honest =
    let next = (clients s.step.client).next_conflict in
    let after : Tree = tree_with tree s.step.moment (landed_call s.step.happens) in
    let same = bytes_step id next tree s.step.moment s.step.happens s.change is sorted in
    let rest =
    honest_from id (tables_after clients s) after s.step.moment ss is
    (sorted_after tree s.step.moment (landed_call s.step.happens) sorted) honest.2 in
    let step : FileStep = step_of id next s in
    and_from (is_honest (bytes_at id tree.files) step.act)
    (is_honest_from (bytes_after (bytes_at id tree.files) step.act)
    (steps_told id (tables_after clients s) ss))
    (honest_step id next tree s.step.moment s.step.happens s.change honest.1)
    (subst
    (λ (file : Option (List ℕ)). is_honest_from file (steps_told id (tables_after clients s) ss)
    ≡ true) (sym same) rest)

stored_from : (id : List ℕ) (clients : List ℕ → Tables) (w : World) (tree : Tree)
    (ss : List TaleStep) (place : ℕ) → IsIdText id → IsSorted file_key tree.files
    → file_bytes w.file ≡ bytes_at id tree.files
    → file_bytes (world_from w (take place (steps_told id clients ss))).file
    ≡ bytes_at id (tree_from tree (take place (plain_steps ss))).files
unfolding steps_told world_from tree_from
stored_from id clients w tree [] zero is sorted same = same
stored_from id clients w tree [] (suc place) is sorted same = same
stored_from id clients w tree (s ∷ ss) zero is sorted same = same
stored_from id clients w tree (s ∷ ss) (suc place) is sorted same =
    let next = (clients s.step.client).next_conflict in
    let step : FileStep = step_of id next s in
    let after : Tree = tree_with tree s.step.moment (landed_call s.step.happens) in
    stored_from id (tables_after clients s) (happened w step) after ss place is
    (sorted_after tree s.step.moment (landed_call s.step.happens) sorted)
    (file_bytes-file_after (w.at step.client).stands.row w.file step.act
    ∙ (ap (λ (file : Option (List ℕ)). bytes_after file step.act) same
    ∙ bytes_step id next tree s.step.moment s.step.happens s.change is sorted))

-- ---- the history

opening_as_read : (id : List ℕ) (file : Option (List ℕ))
    → StandsAsRead (item_of_file id) (option_map (opening_version id) file)
opening_as_read id None = tt
opening_as_read id (Some bytes) = refl

opening_bytes : (id : List ℕ) (file : Option (List ℕ))
    → file_bytes (option_map (opening_version id) file) ≡ file
opening_bytes id None = refl
opening_bytes id (Some bytes) = refl

pub fair : (id : List ℕ) (tale : Tale) → IsFairFor id tale
    → IsFair (item_of_file id) (history_of id tale)
fair id tale f =
    let file = bytes_at id tale.opening.files in
    let honest =
    honest_from id (λ client. new_tables) tale.opening 0 tale.steps f.text
    f.honest.opening.ordered f.honest.steps in
    record {
      opening = opening_as_read id file;
      honest = rw (opening_bytes id file) honest;
      obey = f.obey;
      gapless = f.gapless;
    }

pub trees_file : (id : List ℕ) (tale : Tale) → IsFairFor id tale → IsTreesFile id tale
trees_file id tale f place =
    let file = bytes_at id tale.opening.files in
    stored_from id (λ client. new_tables) (opening_world (option_map (opening_version id) file))
    tale.opening tale.steps place
    f.text f.honest.opening.ordered (opening_bytes id file)
