use Rattle.std.proofs.Common.{◌≡◌, ap, rules, sym}
use Rattle.client.specs.Outside.{OutsidePlace}
use Rattle.jop_cli.proofs.Due.{due_of}
use Rattle.jop_cli.proofs.DueEmptied.{emptied_of}
use Rattle.jop_cli.proofs.DueKey.{key_of}
use Rattle.jop_cli.proofs.Keyed.{complete_of, keys_unsaved_of}
use Rattle.jop_cli.proofs.Local.{unsaved_of}
use Rattle.jop_cli.proofs.Runs.{does_as, does_of}
use Rattle.jop_cli.proofs.Tidied.{exact_of}
use Rattle.jop_cli.specs.Run.{IsFreshOutside}
use Rattle.jop_cli.proofs.program.run.Goals as goal

pub answer-status-requires : goal.answer-status-requires
answer-status-requires g c =
    record { unwritten = c.requires.unwritten; unchanged = c.requires.unchanged }

-- what it works on stays where it is
pub returns-clause-does : goal.returns-clause-does
returns-clause-does g c =
    let acts = c.answer-status.ensures.acts in
    let fresh : IsFreshOutside _ =
    record { unwritten = c.requires.unwritten; unchanged = c.requires.unchanged } in
    let does = does_of _ _ _ _ (complete_of _ _ _ _ acts.explained acts.answers)
    (due_of _ _ _ _ fresh acts.answers) (key_of _ _ _ _ fresh acts.answers)
    (emptied_of _ _ _ _ fresh acts.answers) (exact_of _ _ _ _ acts.answers)
    (unsaved_of _ _ _ _ fresh acts.answers) (keys_unsaved_of _ _ _ _ fresh acts.answers)
    c.notes_are_kept_by_tables.ensures.joined acts in
    let stays = sym c.answer-status.ensures.stays in
    let world = c.answer-status.new.world in
    let keeper : _ ≡ world.keeper.ghost_name = ap (λ (p : OutsidePlace). p.keeper) stays in
    let target : _ ≡ world.target.ghost_name = ap (λ (p : OutsidePlace). p.target) stays in
    let diary : _ ≡ world.diary.ghost_name = ap (λ (p : OutsidePlace). p.diary) stays in
    let made : _ ≡ world.made.ghost_name = ap (λ (p : OutsidePlace). p.made) stays in
    let input : _ ≡ world.input.ghost_name = ap (λ (p : OutsidePlace). p.input) stays in
    let out : _ ≡ world.out.ghost_name = ap (λ (p : OutsidePlace). p.out) stays in
    let clock : _ ≡ world.clock.ghost_name = ap (λ (p : OutsidePlace). p.clock) stays in
    let entropy : _ ≡ world.entropy.ghost_name = ap (λ (p : OutsidePlace). p.entropy) stays in
    does_as _ _ _ _ _ does (search rules) (search rules) (search rules) (search rules)
    (search rules) (search rules) (search rules) (search rules)
