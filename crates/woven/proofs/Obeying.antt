-- All clients of a woven history obey if the seats do.
use Rattle.std.proofs.Common.{refl, sym, subst, inl, inr, ℕ, ◌≤◌, List, []}
use Rattle.jop_target.specs.History.{part_of}
use Rattle.jop_target.specs.declared.event.Event.{Event}
use Rattle.jop_target.specs.declared.tree.Tree.{Tree}
use Rattle.lease.specs.Discipline.{KeepsLocks, lawful_from}
use Rattle.lease.specs.Exclusion.{AllKeepLocks}
use Rattle.target_upgrade.specs.Course.{KeepsVersions, allowed_from}
use Rattle.law_exclusion.specs.Exclusive.{AllKeepVersions}
use Rattle.law_licences.specs.Deeds.{deeds_in}
use Rattle.law_licences.specs.Licences.{Each, ObeysBySome}
use Rattle.law_kept.specs.FairTables.{AllObeyData, new_view}
use Rattle.local_store.specs.Tale.{plain, plain_steps}
use Rattle.call_log.specs.declared.entry.LogEntry.{LogEntry}
use Rattle.woven.specs.Telling.{AreApart, AreLicensed, AreSeated, DoObey}
use Rattle.woven.specs.Weaving.{Clients, DoAgree, weave}
use Rattle.woven.proofs.Owners.{deeds_none, deeds_of_told, owner, part_none, part_told}

-- who does nothing obeys
keeps_none : (client : List ℕ) → KeepsLocks client []
unfolding lawful_from
keeps_none client = refl

allows_none : (client : List ℕ) → KeepsVersions client []
unfolding allowed_from
allows_none client = refl

obeys_none : ObeysBySome new_view []
unfolding Each
obeys_none = tt

-- what is true of each seat and of nobody is true of everyone
everyone : (P : List ℕ → List Event → Type 0) → ((client : List ℕ) → P client [])
    → (tree : Tree) (log : List LogEntry) (clients : Clients) → AreApart clients → AreSeated clients log
    → DoAgree clients log
    → ((k : ℕ) → 1 ≤ k → k ≤ clients.count
    → P (clients.id k) (part_of (clients.id k) (plain_steps (weave tree log clients).steps)))
    → (client : List ℕ) → P client (part_of client (plain_steps (weave tree log clients).steps))
everyone P none tree log clients apart seated agree each client = elim (owner clients.id client clients.count) [
  | inl h ↦ subst (λ (c : List ℕ). P c (part_of c (plain_steps (weave tree log clients).steps))) h.3 (each h.0 h.1 h.2)
  | inr nobody ↦ subst (P client) (sym (part_none tree log clients seated client nobody)) (none client)
]

pub all_keep_locks : (tree : Tree) (log : List LogEntry) (clients : Clients) → AreApart clients
    → AreSeated clients log → DoAgree clients log → DoObey clients
    → AllKeepLocks (plain (weave tree log clients))
all_keep_locks tree log clients apart seated agree obey = record {
  each = everyone KeepsLocks keeps_none tree log clients apart seated agree
      (λ k low high. subst (KeepsLocks (clients.id k))
      (sym (part_told tree log clients apart seated agree k low high)) (obey k low high).0);
}

pub all_keep_versions : (tree : Tree) (log : List LogEntry) (clients : Clients) → AreApart clients
    → AreSeated clients log → DoAgree clients log → DoObey clients
    → AllKeepVersions (plain (weave tree log clients))
all_keep_versions tree log clients apart seated agree obey = record {
  each = everyone KeepsVersions allows_none tree log clients apart seated agree
      (λ k low high. subst (KeepsVersions (clients.id k))
      (sym (part_told tree log clients apart seated agree k low high)) (obey k low high).1);
}

pub all_obey_data : (tree : Tree) (log : List LogEntry) (clients : Clients) → AreApart clients
    → AreSeated clients log → DoAgree clients log → AreLicensed clients
    → AllObeyData (weave tree log clients)
all_obey_data tree log clients apart seated agree licensed client = elim (owner clients.id client clients.count) [
  | inl h ↦ subst (λ (c : List ℕ). ObeysBySome new_view (deeds_in c (weave tree log clients).steps)) h.3
      (subst (ObeysBySome new_view) (sym (deeds_of_told tree log clients apart seated agree h.0 h.1 h.2))
      (licensed h.0 h.1 h.2))
  | inr nobody ↦ subst (ObeysBySome new_view) (sym (deeds_none tree log clients seated client nobody)) obeys_none
]
