-- A command whose acts are refused by the keeper was cut short, and nothing else has failed.
use Rattle.std.specs.Prelude.{ℕ, ◌≡◌, List, ◌++◌, length, Bool, true, false, Option, Some, None, Ok, Err, option_map}
use Rattle.std.proofs.Common.{◌∙◌, ap, inr, subst, sym}
use Rattle.client.specs.Outside.{AreKeptTables, OutsideNow}
use Rattle.jop_outside.specs.Clocks.{ClockNow}
use Rattle.jop_outside.specs.Outside.{HasRisen, SourceNow}
use Rattle.jop_outside.specs.Random.{EntropyNow}
use Rattle.jop_target.specs.Trail.{LineNow}
use Rattle.keeper.specs.Keepers.{KeeperNow}
use Rattle.keeper.specs.declared.keeper_err.KeeperErr.{KeeperErr}
use Rattle.keeper.specs.declared.keeper_err.KeeperErr.TheVariants as keeper_errors
use Rattle.local_commands.specs.Drawing.{DrawsIds}
use Rattle.local_commands.specs.Keeping.{ActsAll, AreDone, changes_among, kept_after_all, trail_of}
use Rattle.local_commands.specs.Refusals.{keeper_refusal}
use Rattle.local_commands.specs.Running.{IsCutShort, IsMade, NoneHasFailed, Plan, Runs}
use Rattle.local_commands.specs.Stages.{IsSupplied, MakesWork, Supplies}
use Rattle.local_commands.specs.Taking.{ShowsTime, Takes}
use Rattle.local_commands.specs.declared.act.Act.{Act}
use Rattle.local_commands.specs.declared.drawing.Drawing.{Drawing}
use Rattle.local_commands.specs.declared.drawing.Drawing.TheVariants.{NoId, OneId, TwoIds}
use Rattle.local_commands.specs.declared.drawing.Ids.{Ids}
use Rattle.local_commands.specs.declared.drawing.Ids.TheVariants as ids
use Rattle.local_commands.specs.declared.intake.Intake.{Intake}
use Rattle.local_commands.specs.declared.supply.Supply.{Supply}
use Rattle.local_commands.specs.declared.work.Work.{Work}
use Rattle.local_store.specs.declared.change.Change.{Change}
use Rattle.local_store.specs.declared.tables.Tables.{Tables}

-- ---- what a command needs has not failed

taken_unfailed : (intake : Option Intake) (old : SourceNow) (bytes : List ℕ) (new : SourceNow)
    → Takes intake old bytes new → new.faults ≡ old.faults
taken_unfailed None old bytes new h = ap (λ (s : SourceNow). s.faults) h.1
taken_unfailed (Some intake) old bytes new h = h.0.stays

shown_unfailed : (uses : Bool) (old : ClockNow) (now : ℕ) (new : ClockNow)
    → ShowsTime uses old now new → new.faults ≡ old.faults
shown_unfailed true old now new h = h.stays
shown_unfailed false old now new h = ap (λ (c : ClockNow). c.faults) h.1

drawn_unfailed : (draws : Drawing) (t : Tables) (old : EntropyNow) (drawn : Ids) (new : EntropyNow)
    → DrawsIds draws t old drawn new → new.faults ≡ old.faults
drawn_unfailed NoId t old ids.None new h = ap (λ (e : EntropyNow). e.faults) h
drawn_unfailed NoId t old (ids.One id) new h = absurd h
drawn_unfailed NoId t old (ids.Two id second) new h = absurd h
drawn_unfailed OneId t old ids.None new h = absurd h
drawn_unfailed OneId t old (ids.One id) new h = h.drawn.stays
drawn_unfailed OneId t old (ids.Two id second) new h = absurd h
drawn_unfailed TwoIds t old ids.None new h = absurd h
drawn_unfailed TwoIds t old (ids.One id) new h = absurd h
drawn_unfailed TwoIds t old (ids.Two id second) new h =
    h.second_id.drawn.stays ∙ h.first_id.drawn.stays

-- ---- the acts

-- the keeper was used alone, so all else is as it was when the command had what it needs
record IsBeside (mid new : OutsideNow) : Type 0 where
  input : new.input ≡ mid.input
  clock : new.clock ≡ mid.clock
  entropy : new.entropy ≡ mid.entropy

beside : (acts : List Act) (mid new : OutsideNow) (e : KeeperErr) → ActsAll acts mid (Err e) new
    → IsBeside mid new
beside acts mid new e a = record {
  input = ap (λ (o : OutsideNow). o.input) a.alone;
  clock = ap (λ (o : OutsideNow). o.clock) a.alone;
  entropy = ap (λ (o : OutsideNow). o.entropy) a.alone;
}

is_made : (p : Plan) (t : Tables) (old mid new : OutsideNow) (supply : Supply) (work : Work)
    → AreKeptTables old.keeper t → p.Checks t None → IsSupplied p t old supply mid
    → MakesWork p t supply (Ok work) → IsBeside mid new → IsMade p old new (Ok work)
is_made p t old mid new supply work kept passed s m b = record {
  tables = t;
  input = supply.input;
  now = supply.now;
  ids = supply.ids;
  timed = record {
    fed = record {
      allowed = record { kept = kept; passed = passed };
      takes = subst (λ (i : SourceNow). Takes p.intake old.input supply.input i) (sym b.input)
          s.takes;
    };
    shows = subst (λ (k : ClockNow). ShowsTime p.clock old.clock supply.now k) (sym b.clock)
        s.shows;
  };
  draws = subst (λ (e : EntropyNow). DrawsIds p.draws t old.entropy supply.ids e) (sym b.entropy)
      s.draws;
  makes = m.0;
  local = m.2;
}

done_since : (front : List Act) (old mid new : OutsideNow) → mid.keeper ≡ old.keeper
    → mid.line ≡ old.line → mid.made ≡ old.made → AreDone front mid new → AreDone front old new
done_since front old mid new keeper line made done =
    let changes = changes_among front in
    record {
      kept = done.kept ∙ ap (λ (k : KeeperNow). option_map (kept_after_all front) k.kept) keeper;
      noted = record {
        made = done.noted.made ∙ ap (λ (cs : List Change). cs ++ changes) made;
        trail =
            done.noted.trail
            ∙ (ap (λ (l : LineNow). l.trail ++ trail_of (length mid.made) changes) line
            ∙ ap (λ (cs : List Change). old.line.trail ++ trail_of (length cs) changes) made);
      };
    }

cut_short : (p : Plan) (t : Tables) (old mid new : OutsideNow) (supply : Supply) (work : Work)
    (e : KeeperErr) → AreKeptTables old.keeper t → p.Checks t None → Supplies p t old (Ok supply) mid
    → MakesWork p t supply (Ok work) → ActsAll work.acts mid (Err e) new → IsCutShort p old new
cut_short p t old mid new supply work e kept passed s m a = record {
  work = work;
  made = is_made p t old mid new supply work kept passed s.comes m (beside work.acts mid new e a);
  does = record {
    front = a.does.front;
    rest = a.does.rest;
    split = a.does.split;
    done = done_since a.does.front old mid new s.unsaved.keeper s.unsaved.line s.unsaved.made
        a.does.done;
  };
}

unfailed : (p : Plan) (t : Tables) (old mid new : OutsideNow) (supply : Supply) (acts : List Act)
    → Supplies p t old (Ok supply) mid → ActsAll acts mid (Err keeper_errors.NoMemory) new
    → NoneHasFailed old new
unfailed p t old mid new supply acts s a =
    let b = beside acts mid new keeper_errors.NoMemory a in
    record {
      keeper = a.faults ∙ ap (λ (k : KeeperNow). k.faults) s.unsaved.keeper;
      input =
          ap (λ (i : SourceNow). i.faults) b.input
          ∙ taken_unfailed p.intake old.input supply.input mid.input s.comes.takes;
      clock =
          ap (λ (k : ClockNow). k.faults) b.clock
          ∙ shown_unfailed p.clock old.clock supply.now mid.clock s.comes.shows;
      entropy =
          ap (λ (e : EntropyNow). e.faults) b.entropy
          ∙ drawn_unfailed p.draws t old.entropy supply.ids mid.entropy s.comes.draws;
    }

pub ends_acts : (p : Plan) (t : Tables) (old mid new : OutsideNow) (supply : Supply) (work : Work)
    (e : KeeperErr) → AreKeptTables old.keeper t → p.Checks t None → Supplies p t old (Ok supply) mid
    → MakesWork p t supply (Ok work) → ActsAll work.acts mid (Err e) new
    → Runs p old (Err (keeper_refusal e)) new
ends_acts p t old mid new supply work keeper_errors.Fault kept passed s m a = inr (
  cut_short p t old mid new supply work keeper_errors.Fault kept passed s m a,
  subst (λ (k : KeeperNow). HasRisen k.faults new.keeper.faults) s.unsaved.keeper a.faults,
)
ends_acts p t old mid new supply work keeper_errors.NoMemory kept passed s m a = (
  inr (cut_short p t old mid new supply work keeper_errors.NoMemory kept passed s m a),
  unfailed p t old mid new supply work.acts s a,
)
