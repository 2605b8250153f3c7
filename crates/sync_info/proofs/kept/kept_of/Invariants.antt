use Rattle.std.proofs.Common.{◌≡◌, ◌++◌, false}
use Rattle.serde_json.specs.View.{members_view}
use Rattle.serde_json.specs.Written.{members_have_float}
use Rattle.sync_info.specs.Read.{kept_of}
use Rattle.sync_info.proofs.kept.kept_of.Given as goal

abbrev pub invariant-loop-name : goal.invariant-loop-name
invariant-loop-name l = record {
  kept : kept_of l.of (members_view l.initial.name-iterator) ≡ l.kept
      ++ kept_of l.of (members_view l.name-iterator);
  whole : members_have_float (members_view l.name-iterator) ≡ false;
}
