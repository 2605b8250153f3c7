use Rattle.std.proofs.Common.{◌≡◌, ap, rules, sym}
use Rattle.client.specs.Sites.{Place}
use Rattle.sync_run.proofs.Leases.{Laws}
use Rattle.sync_session.proofs.Ordered.{added_as}
use Rattle.sync_session.proofs.Promised.{heeds_from, keeps_from, licensed_from}
use Rattle.sync_session.proofs.Ran.{adds_as, is_site, line_as}
use Rattle.law_licences.specs.Sealing.{no_keys}
use Rattle.sync_session.proofs.Wanted.{key_as}
use Rattle.sync_session.proofs.syncing.sync_on.Goals as goal

-- what it works on stays where it is
pub returns : goal.returns
returns g c =
    let client = c.args.client.now in
    let made = c.make_session.ensures in
    let stays = sym made.stays in
    let site = c.make_session.new.site in
    let target : _ ≡ site.target.ghost_name = ap (λ (p : Place). p.target) stays in
    let keeper : _ ≡ site.keeper.ghost_name = ap (λ (p : Place). p.keeper) stays in
    let tables : _ ≡ site.tables.ghost_name = ap (λ (p : Place). p.tables) stays in
    let diary : _ ≡ site.diary.ghost_name = ap (λ (p : Place). p.diary) stays in
    let changes : _ ≡ site.made.ghost_name = ap (λ (p : Place). p.made) stays in
    let is = is_site _ _ (search rules) (search rules) (search rules) (search rules)
    (search rules) in
    let session = adds_as client _ _ _ _ made.session is in
    let laws : Laws = record {
      apart = c.held_apart.ensures.joined;
      exclusive = c.exclusive.ensures.joined;
      named = c.blocked.ensures.named;
    } in
    let licensed = licensed_from client _ _ _ session in
    record {
      session = session;
      line = line_as client _ _ _ made.line is;
      keeps = keeps_from client _ _ _ laws session;
      order = added_as _ _ _ _ made.order is;
      key = key_as _ _ _ _ _ made.key is;
      emptied = heeds_from client _ _ _ session;
      licensed = licensed;
      kept = λ added changes trail made.
          c.notes_are_kept_by_tables.ensures.joined client no_keys _ added changes
          (licensed added changes trail made).0;
    }
