-- Where a session stands in an upgrade, call by call.
use Rattle.std.proofs.Common.{◌≡◌, ◌<◌, ◌+◌, ◌≤◌, ◌∙◌, length, drop, get_or, sym, ap, subst, arith, ℕ, List, [], ◌∷◌, refl, false, Option, Some, None, Ok, Err}
use Rattle.std.proofs.lemmas.List.{drop_more, drop_all}
use Rattle.jop_base.specs.declared.dir.Dir.TheVariants.{Root}
use Rattle.jop_base.specs.declared.path.Path.TheVariants.{Info as InfoFile, OldVersion, Item}
use Rattle.jop_target.specs.declared.call.Call.{Call}
use Rattle.jop_target.specs.declared.call.Call.TheVariants.{List as ListDir, Get, Put}
use Rattle.jop_target.specs.declared.event.Event.{Event}
use Rattle.jop_target.specs.declared.reply.Reply.{Reply}
use Rattle.jop_target.specs.declared.reply.Listing.{Listing}
use Rattle.jop_target.specs.declared.reply.Reply.TheVariants.{Listed, Got, GotBlob, Absent, Done, Failed, TooLarge}
use Rattle.jop_target.specs.Replies.{IsReplyTo}
use Rattle.jop_target.specs.Trail.{LineNow, EndsWith}
use Rattle.lease.specs.Standing.{IsSameBut}
use Rattle.lease.specs.declared.error.LeaseErr.TheVariants.{Busy, Lost, TargetFault, NoMemory}
use Rattle.lease.specs.declared.lease.Lease.{Lease}
use Rattle.target_upgrade.specs.Answers.{Begins, StandsAt, WorkGoesOn, HasMade, HasCome, stage_of}
use Rattle.sync_info.specs.Info.{new_info}
use Rattle.sync_info.specs.Json.{info_text}
use Rattle.sync_info.proofs.KeptLemmas.{IsInfo-new_info}
use Rattle.sync_info.specs.declared.info.Info.{Info}
use Rattle.sync_info.specs.declared.key_record.KeyRecord.{KeyRecord}
use Rattle.target_upgrade.specs.Keys.{with_key}
use Rattle.target_upgrade.specs.Reading.{GivesInfo, HasFound, IsGotInfo, StopsReading, ReplyTells}
use Rattle.target_upgrade.specs.declared.reading.ReadErr.{ReadErr}
use Rattle.target_upgrade.specs.declared.reading.ReadErr.TheVariants.{BadInfo, Lease as LeaseStops}
use Rattle.target_upgrade.specs.Steps.{UpgradeStage, Reads, ReadsOld, At, Gets, Upgraded, Stuck, after_old, starts, starts_from, stage_after_reply, step_call, is_last, next_step, after_step, after_get, after_last, key_in, items_in, at_version}
use Rattle.target_upgrade.specs.declared.step.Step.{Step}
use Rattle.target_upgrade.specs.declared.step.Step.TheVariants.{MakesResources, MakesOldSync, PutsOne, MakesLocks, MakesTemp, PutsTwo, PutsInfo, ListsRoot}
use Rattle.target_upgrade.proofs.Made.{none_failed_made, same_lease}

-- ---- what the replies lead to

-- the stage that was known
made_at : (lease now : Lease) (old : List Event) (new : LineNow) (stage : UpgradeStage)
    (call : Call) →
    StandsAt lease old stage → HasMade lease now call (stage_of lease old) new → HasMade lease now
    call stage new
made_at lease now old new stage call at h =
    subst (λ (s : UpgradeStage). HasMade lease now call s new)
    at.at h

-- what a step's reply must be
step_reply : (step : Step) (info : Info) (reply : Reply) → is_last step ≡ false → IsReplyTo
    (step_call step info) reply → ¬ (reply ≡ Failed) → after_step step info reply ≡ At
    (next_step step) info
step_reply MakesResources info (Done now) early shape ok = refl
step_reply MakesOldSync info (Done now) early shape ok = refl
step_reply PutsOne info (Done now) early shape ok = refl
step_reply MakesLocks info (Done now) early shape ok = refl
step_reply MakesTemp info (Done now) early shape ok = refl
step_reply PutsTwo info (Done now) early shape ok = refl
step_reply PutsInfo info (Done now) early shape ok = refl
step_reply ListsRoot info reply early shape ok = cc
step_reply step info Failed early shape ok = absurd (ok refl)
step_reply MakesResources info reply early shape ok = absurd shape
step_reply MakesOldSync info reply early shape ok = absurd shape
step_reply PutsOne info reply early shape ok = absurd shape
step_reply MakesLocks info reply early shape ok = absurd shape
step_reply MakesTemp info reply early shape ok = absurd shape
step_reply PutsTwo info reply early shape ok = absurd shape
step_reply PutsInfo info reply early shape ok = absurd shape

pub step_done : (lease now : Lease) (old : List Event) (new : LineNow) (step : Step) (info : Info)
    (call : Call) → StandsAt lease old (At step info) → call ≡ step_call step info → is_last step ≡
    false → HasMade lease now call (stage_of lease old) new → HasCome lease now
    (At (next_step step) info) new
step_done lease now old new step info call at is early h =
    let m = made_at lease now old new (At step info) call at h in
    record {
      same = m.same;
      stands = subst (λ (s : UpgradeStage). StandsAt now new.trail s)
          (step_reply step info m.reply early (subst (λ (c : Call). IsReplyTo c m.reply) is m.shape)
          m.heard) m.stands;
    }

get_reply : (id : List ℕ) (ids : List (List ℕ)) (info : Info) (reply : Reply) → ¬ (reply ≡ Failed) →
    after_get id ids info reply ≡ Gets ids (with_key (key_in id reply) info)
get_reply id ids info Failed ok = absurd (ok refl)
get_reply id ids info (Listed l) ok = refl
get_reply id ids info (Got now content) ok = refl
get_reply id ids info (GotBlob now len) ok = refl
get_reply id ids info (Absent now) ok = refl
get_reply id ids info (Done now) ok = refl
get_reply id ids info (TooLarge len) ok = refl

-- a key was got
pub get_done : (lease now : Lease) (old : List Event) (new : LineNow) (id : List ℕ)
    (ids : List (List ℕ)) (info after : Info) (key : Option KeyRecord) (r : Reply) → StandsAt lease
    old (Gets (id ∷ ids) info) → HasMade lease now (Get (Item id)) (stage_of lease old) new →
    ((c : Call) (y : Reply) → EndsWith new.trail c y → r ≡ y) → key ≡ key_in id r → after ≡ with_key
    key info → HasCome lease now (Gets ids after) new
get_done lease now old new id ids info after key r at h last gives is =
    let m = made_at lease now old new (Gets (id ∷ ids) info) (Get (Item id)) at h in
    let read : r ≡ m.reply = last (Get (Item id)) m.reply m.ends in
    let stage : after_get id ids info m.reply ≡ Gets ids (with_key (key_in id r) info) = get_reply
    id ids info m.reply m.heard ∙ ap (λ (y : Reply). Gets ids (with_key (key_in id y) info))
    (sym read) in
    let added : with_key (key_in id r) info ≡ after = ap (λ (k : Option KeyRecord). with_key k info)
    (sym gives) ∙ sym is in
    record {
      same = m.same;
      stands = subst (λ (s : UpgradeStage). StandsAt now new.trail s)
          (stage ∙ ap (Gets ids) added) m.stands;
    }

last_reply : (text : List ℕ) (reply : Reply) → IsReplyTo (Put InfoFile text) reply → ¬
    (reply ≡ Failed) → after_last reply ≡ Upgraded
last_reply text (Done now) shape ok = refl
last_reply text Failed shape ok = absurd (ok refl)
last_reply text reply shape ok = absurd shape

-- the last put was made
pub last_done : (lease now : Lease) (old : List Event) (new : LineNow) (info : Info)
    (text : List ℕ) → text ≡ info_text info → StandsAt lease old (Gets [] info) → HasMade lease now
    (Put InfoFile text) (stage_of lease old) new → HasCome lease now Upgraded new
last_done lease now old new info text is at h =
    let m = made_at lease now old new (Gets [] info) (Put InfoFile text) at h in
    record {
      same = m.same;
      stands = subst (λ (s : UpgradeStage). StandsAt now new.trail s)
          (last_reply text m.reply m.shape m.heard) m.stands;
    }

-- the root was listed
pub record HasListed (lease now : Lease) (info : Info) (new : LineNow) (listing : Listing) : Type 0
  where
    pub ends : EndsWith new.trail (ListDir Root) (Listed listing)
    pub come : HasCome lease now (Gets (items_in listing.entries) (at_version 3 info)) new

list_reply : (lease now : Lease) (info : Info) (new : LineNow) (reply : Reply) → IsReplyTo
    (ListDir Root) reply → ¬ (reply ≡ Failed) → IsSameBut lease now → EndsWith new.trail
    (ListDir Root) reply → StandsAt now new.trail (after_step ListsRoot info reply) →
    (listing : Listing) × HasListed lease now info new listing
list_reply lease now info new (Listed l) shape ok same ends at =
    (l, record { ends = ends; come = record { same = same; stands = at } })
list_reply lease now info new Failed shape ok same ends at = absurd (ok refl)
list_reply lease now info new reply shape ok same ends at = absurd shape

pub list_done : (lease now : Lease) (old : List Event) (new : LineNow) (info : Info) (call : Call) →
    call ≡ ListDir Root → StandsAt lease old (At ListsRoot info) → HasMade lease now call
    (stage_of lease old) new → (listing : Listing) × HasListed lease now info new listing
list_done lease now old new info call is at h =
    let m = made_at lease now old new (At ListsRoot info) (ListDir Root) at
    (subst (λ (c : Call). HasMade lease now c (stage_of lease old) new) is h) in
    list_reply lease now info new m.reply m.shape m.heard m.same m.ends m.stands

-- the listing that was read is the one that was heard
pub listed_as : (lease now : Lease) (info : Info) (new : LineNow) (r : Reply) (l : Listing) →
    (listing : Listing) × HasListed lease now info new listing →
    ((c : Call) (y : Reply) → EndsWith new.trail c y → r ≡ y) → r ≡ Listed l → HasCome lease now
    (Gets (items_in l.entries) (at_version 3 info)) new
listed_as lease now info new r l listed last is =
    let heard : Listed listed.0 ≡ Listed l =
    sym (last (ListDir Root) (Listed listed.0) listed.1.ends) ∙ is in
    let same : listed.0 ≡ l = cc in
    subst (λ (m : Listing). HasCome lease now (Gets (items_in m.entries) (at_version 3 info)) new)
    same listed.1.come

-- ---- items one by one

pub at_item : (lease : Lease) (trail : List Event) (ids : List (List ℕ)) (index : ℕ) (id : List ℕ)
    (info : Info) → index < length ids → id ≡ get_or ids index id → StandsAt lease trail
    (Gets (drop index ids) info) → StandsAt lease trail (Gets (id ∷ drop (index + 1) ids) info)
at_item lease trail ids index id info within is at =
    let here : drop index ids ≡ id ∷ drop (index + 1) ids = drop_more ids index id within ∙ ap
    (λ (x : List ℕ). x ∷ drop (index + 1) ids) (sym is) in
    subst (λ (xs : List (List ℕ)). StandsAt lease trail (Gets xs info)) here at

pub at_end : (lease : Lease) (trail : List Event) (ids : List (List ℕ)) (index : ℕ) (info : Info) →
    length ids ≤ index → StandsAt lease trail (Gets (drop index ids) info) → StandsAt lease trail
    (Gets [] info)
at_end lease trail ids index info done at = subst (λ (xs : List (List ℕ)). StandsAt lease trail
    (Gets xs info)) (drop_all index ids done) at

-- ---- where an upgrade begins

pub begins_at : (lease : Lease) (trail : List Event) (from v : ℕ) (info : Info) → Begins lease trail
    from info → from ≡ v → StandsAt lease trail (starts_from v info)
begins_at lease trail from v info b is = subst (λ (n : ℕ). StandsAt lease trail
    (starts_from n info)) (b.version ∙ is) b.stands

pub come_nowhere : (lease : Lease) (s : LineNow) (stage : UpgradeStage) →
    StandsAt lease s.trail stage →
    HasCome lease lease stage s
come_nowhere lease s stage at = record { same = same_lease lease; stands = at }

-- ---- what the replies of reading lead to

module _ (lease now : Lease) (old : List Event) (new : LineNow) (call : Call) (stage : UpgradeStage)
    (r : Reply) (h : HasMade lease now call stage new) (last : (c : Call) (y : Reply) → EndsWith
    new.trail c y → r ≡ y) where
  pub read_is : r ≡ h.reply
  read_is = last call h.reply h.ends

  pub read_shape : IsReplyTo call r
  read_shape = subst (λ (y : Reply). IsReplyTo call y) (sym read_is) h.shape

  pub read_heard : ¬ (r ≡ Failed)
  read_heard = λ e. h.heard (sym read_is ∙ e)

  pub come_read : (next : UpgradeStage) → stage_after_reply stage r ≡ next
      → HasCome lease now next new
  come_read next is = record {
    same = h.same;
    stands = subst
        (λ (s : UpgradeStage). StandsAt now new.trail s) (ap (stage_after_reply stage) (sym read_is) ∙ is) h.stands;
  }

pub come_at : (lease now : Lease) (old : List Event) (new : LineNow) (stage next : UpgradeStage)
    (call : Call) (r : Reply) → StandsAt lease old stage → HasMade lease now call
    (stage_of lease old) new → ((c : Call) (y : Reply) → EndsWith new.trail c y → r ≡ y) →
    stage_after_reply stage r ≡ next → HasCome lease now next new
come_at lease now old new stage next call r at h last is = come_read lease now old new call stage r
    (made_at lease now old new stage call at h) last next is

other_old : (r : Reply) → IsReplyTo (Get OldVersion) r → ¬ (r ≡ Failed) →
    ((at : ℕ) → ¬ (r ≡ Absent at)) → after_old r ≡ starts (new_info 1)
other_old (Got now content) shape heard other = refl
other_old (TooLarge len) shape heard other = refl
other_old (Absent now) shape heard other = absurd (other now refl)
other_old Failed shape heard other = absurd (heard refl)
other_old (Listed l) shape heard other = absurd shape
other_old (GotBlob now len) shape heard other = absurd shape
other_old (Done now) shape heard other = absurd shape

pub old_there : (lease now : Lease) (old : List Event) (new : LineNow) (r : Reply) → StandsAt lease
    old ReadsOld → HasMade lease now (Get OldVersion) (stage_of lease old) new →
    ((c : Call) (y : Reply) → EndsWith new.trail c y → r ≡ y) → ((at : ℕ) → ¬ (r ≡ Absent at)) →
    HasCome lease now (starts (new_info 1)) new
old_there lease now old new r at h last other = come_at lease now old new ReadsOld
    (starts (new_info 1)) (Get OldVersion) r at h last (other_old r
    (read_shape lease now old new (Get OldVersion) (stage_of lease old) r h last)
    (read_heard lease now old new (Get OldVersion) (stage_of lease old) r h last) other)

got_it : (trail : List Event) (info : Info) (r : Reply) → GivesInfo info r →
    EndsWith trail (Get InfoFile) r → IsGotInfo trail info
got_it trail info (Got now content) gives ends =
    record { now = now; content = content; ends = ends; holds = gives }
got_it trail info r gives ends = absurd gives

pub told_some : (lease now : Lease) (old : List Event) (new : LineNow) (info : Info) (r : Reply) →
    StandsAt lease old Reads → HasMade lease now (Get InfoFile) (stage_of lease old) new →
    ((c : Call) (y : Reply) → EndsWith new.trail c y → r ≡ y) → ReplyTells r (Ok (Some info)) →
    HasFound lease now (record { version = info.version; info = Some info }) new
told_some lease now old new info r at h last tells =
    let come = come_at lease now old new Reads (starts info) (Get InfoFile) r at h last tells.0 in
    let read = read_is lease now old new (Get InfoFile) (stage_of lease old) r h last in
    let ends = subst (λ (y : Reply). EndsWith new.trail (Get InfoFile) y) (sym read) h.ends in
    record {
      same = come.same;
      at = record {
        read = got_it new.trail info r tells.2 ends;
        stands = come.stands;
        version = refl;
        valid = tells.1;
      };
    }

pub told_none : (lease now : Lease) (old : List Event) (new : LineNow) (r : Reply) →
    StandsAt lease old Reads → HasMade lease now (Get InfoFile) (stage_of lease old) new →
    ((c : Call) (y : Reply) → EndsWith new.trail c y → r ≡ y) → ReplyTells r (Ok None) →
    HasCome lease now ReadsOld new
told_none lease now old new r at h last tells =
    come_at lease now old new Reads ReadsOld (Get InfoFile) r at h last tells

pub told_stops : (lease now : Lease) (old new : LineNow) (r : Reply) (e : ReadErr) →
    StandsAt lease old.trail Reads →
    HasMade lease now (Get InfoFile) (stage_of lease old.trail) new →
    WorkGoesOn lease.client old new →
    ((c : Call) (y : Reply) → EndsWith new.trail c y → r ≡ y) → ReplyTells r (Err e) →
    StopsReading lease now old new e
told_stops lease now old new r BadInfo at h goes last tells =
    let come = come_at lease now old.trail new Reads Stuck (Get InfoFile) r at h last tells.0 in
    let read = read_is lease now old.trail new (Get InfoFile) (stage_of lease old.trail) r h last in
    record {
      same = come.same;
      stands = come.stands;
      reply = r;
      ends = subst (λ (y : Reply). EndsWith new.trail (Get InfoFile) y) (sym read) h.ends;
      cause = tells.1;
    }
told_stops lease now old new r (LeaseStops NoMemory) at h goes last tells =
    none_failed_made lease now (Get InfoFile) (stage_of lease old.trail) old new h goes
told_stops lease now old new r (LeaseStops (Lost seen)) at h goes last tells = let is = tells.0 in cc
told_stops lease now old new r (LeaseStops TargetFault) at h goes last tells = let is = tells.0 in cc
told_stops lease now old new r (LeaseStops (Busy lock moment)) at h goes last tells = let is = tells.0 in cc

pub found_old : (lease now : Lease) (new : LineNow) (version : ℕ) → version ≤ 1 →
    HasCome lease now (starts (new_info version)) new →
    HasFound lease now (record { version = version; info = None }) new
found_old lease now new version small come = record {
  same = come.same;
  at = record {
    read = small;
    stands = come.stands;
    version = refl;
    valid = IsInfo-new_info version (omega (arith, small));
  };
}
