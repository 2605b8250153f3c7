use Rattle.std.proofs.Common.{refl}
use Rattle.jop_cli.proofs.world.AroundWorld.sync.Goals as goal

pub sync_on-requires : goal.sync_on-requires
sync_on-requires g c = record { tidy = record { sound = c.requires.sound; told = c.requires.told } }

pub returns-clause-syncs : goal.returns-clause-syncs
returns-clause-syncs g c =
    let line = c.sync_on.ensures.line in
    record {
      late = c.sync_on.new.tables;
      session = c.sync_on.ensures.session;
      line = line;
      keeps = c.sync_on.ensures.keeps line.more line.trail;
      licensed = λ changes is. c.sync_on.ensures.licensed line.more changes line.trail is;
      order = c.sync_on.ensures.order line.more line.trail;
      key = c.sync_on.ensures.key line.more line.trail;
      emptied = λ changes is. c.sync_on.ensures.emptied line.more changes line.trail is;
      same = refl;
    }
