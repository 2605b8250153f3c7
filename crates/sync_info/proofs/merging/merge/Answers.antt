use Rattle.std.proofs.Common.{◌≡◌, sym, subst, rules}
use Rattle.sync_info.specs.Info.{IsInfo}
use Rattle.sync_info.specs.Merge.{merged}
use Rattle.sync_info.specs.declared.info.Info.{Info}
use Rattle.sync_info.proofs.MergeLemmas.{IsInfo-merged}
use Rattle.sync_info.proofs.merging.merge.Goals as goal

pub returns-clause-valid : goal.returns-clause-valid
returns-clause-valid c =
    let made : Info =
    record {
      version = c.args.remote.now.version;
      e2ee = c.later.result.now;
      active = c.in_ok-copy.field-0;
      keys = c.in_ok-joined.field-0;
      others = c.in_ok-copy-2.field-0;
    } in
    let is : made ≡ merged c.args.local.now c.args.remote.now = search rules in
    subst IsInfo (sym is)
    (IsInfo-merged c.args.local.now c.args.remote.now c.requires.local c.requires.remote)
