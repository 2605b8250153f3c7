use Rattle.std.specs.Prelude.{Ok, Err}
use Rattle.std.proofs.Common.{subst}
use Rattle.lease.specs.declared.error.LeaseErr.{LeaseErr}
use Rattle.session.proofs.Asked.{asks_at, has_asked, vain_at, works_at}
use Rattle.session.specs.Asking.{AsksUnderLease, step_of_lease}
use Rattle.session.proofs.asking.ask.Goals as goal

pub returns-in-Ok-clause-asks : goal.returns-in-Ok-clause-asks
returns-in-Ok-clause-asks g c =
    let old = g.S.Client.site c.args.site.now in
    let new = g.S.Client.site c.call_held.new.line in
    let before = c.args.lease.now in
    let after = c.call_held.new.lease in
    has_asked old new before after c.args.call c.args.bytes.now c.call_held.new.blob
    (g.met.S.Client.keeps_site _ _ c.call_held.ensures.keeps) c.call_held.ensures.same
    c.requires.ready.tidy c.requires.askable
    (works_at before after c.args.call c.args.bytes.now c.call_held.new.blob old.line new.line _ _
    (Ok tt) (g.met.S.Client.same_line _) (g.met.S.Client.same_line _) c.in-Ok.ensures.gives)

pub returns-in-Err-Lost-clause-asks : goal.returns-in-Err-Lost-clause-asks
returns-in-Err-Lost-clause-asks g c =
    let old = g.S.Client.site c.args.site.now in
    let new = g.S.Client.site c.call_held.new.line in
    subst (λ (e : LeaseErr).
    AsksUnderLease c.args.call old c.args.lease.now
    (Err (step_of_lease e)) new c.call_held.new.lease
    c.call_held.new.blob)
    c.in-Err-Lost.field-0-is
    (asks_at old new _ _ _ _ _ _ _ _ (g.met.S.Client.same_line _) (g.met.S.Client.same_line _)
    (g.met.S.Client.keeps_site _ _ c.call_held.ensures.keeps) c.call_held.ensures.same
    c.requires.ready.tidy c.requires.askable c.in-Err-Lost.ensures.gives)

pub returns-in-Err-TargetFault-clause-asks : goal.returns-in-Err-TargetFault-clause-asks
returns-in-Err-TargetFault-clause-asks g c =
    let old = g.S.Client.site c.args.site.now in
    let new = g.S.Client.site c.call_held.new.line in
    subst (λ (e : LeaseErr).
    AsksUnderLease c.args.call old c.args.lease.now
    (Err (step_of_lease e)) new c.call_held.new.lease
    c.call_held.new.blob)
    c.in-Err-TargetFault.field-0-is
    (asks_at old new _ _ _ _ _ _ _ _ (g.met.S.Client.same_line _) (g.met.S.Client.same_line _)
    (g.met.S.Client.keeps_site _ _ c.call_held.ensures.keeps) c.call_held.ensures.same
    c.requires.ready.tidy c.requires.askable c.in-Err-TargetFault.ensures.gives)

pub returns-in-Err-NoMemory-clause-asks : goal.returns-in-Err-NoMemory-clause-asks
returns-in-Err-NoMemory-clause-asks g c =
    let old = g.S.Client.site c.args.site.now in
    let new = g.S.Client.site c.call_held.new.line in
    subst (λ (e : LeaseErr).
    AsksUnderLease c.args.call old c.args.lease.now
    (Err (step_of_lease e)) new c.call_held.new.lease
    c.call_held.new.blob)
    c.in-Err-NoMemory.field-0-is
    (asks_at old new _ _ _ _ _ _ _ _ (g.met.S.Client.same_line _) (g.met.S.Client.same_line _)
    (g.met.S.Client.keeps_site _ _ c.call_held.ensures.keeps) c.call_held.ensures.same
    c.requires.ready.tidy c.requires.askable c.in-Err-NoMemory.ensures.gives)

pub returns-in-Err-Lost-clause-once : goal.returns-in-Err-Lost-clause-once
returns-in-Err-Lost-clause-once g c =
    vain_at (g.S.Client.site c.args.site.now) (g.S.Client.site c.call_held.new.line) _ _ _ _ _ _ _
    _ (g.met.S.Client.same_line _) (g.met.S.Client.same_line _) c.in-Err-Lost.ensures.gives

pub returns-in-Err-TargetFault-clause-once : goal.returns-in-Err-TargetFault-clause-once
returns-in-Err-TargetFault-clause-once g c =
    vain_at (g.S.Client.site c.args.site.now) (g.S.Client.site c.call_held.new.line) _ _ _ _ _ _ _
    _ (g.met.S.Client.same_line _) (g.met.S.Client.same_line _) c.in-Err-TargetFault.ensures.gives

pub returns-in-Err-NoMemory-clause-once : goal.returns-in-Err-NoMemory-clause-once
returns-in-Err-NoMemory-clause-once g c =
    vain_at (g.S.Client.site c.args.site.now) (g.S.Client.site c.call_held.new.line) _ _ _ _ _ _ _
    _ (g.met.S.Client.same_line _) (g.met.S.Client.same_line _) c.in-Err-NoMemory.ensures.gives
