use Rattle.jop_target.specs.Replies.{IsRising}
use Rattle.std.proofs.Common.{rules, ◌≡◌, sym, subst, [], ◌∷◌, ◌++◌}
use Rattle.std.proofs.lemmas.List.Elements.{All-push}
use Rattle.std.proofs.lemmas.List.Sorted.{All-permutation}
use Rattle.target_files.specs.Listed.{AreEntriesOf, IsEntryOf}
use Rattle.target_files.proofs.listing.entries_of.Goals as goal
use Rattle.target_files.proofs.listing.entries_of.Goals.{in-Some+in_ok-push, in_default}

pub loop-name-preserved : goal.loop-name-preserved
loop-name-preserved g c = elim c.match-branch-2.branch [
  | in-Some+in_ok-push w ↦
      let pushed : w.push.new.self.items ≡ c.loop-name.entries.items ++ w.in-Some.entry ∷ [] = w.in_ok-push.ensures.items in
      let entry : IsEntryOf c.args.dir c.args.latest w.in-Some.entry = rw w.in-Some.is at c.in_ok-entry.ensures in
      rw w.entries-is (subst (AreEntriesOf c.args.dir c.args.latest) (sym pushed) (All-push (IsEntryOf c.args.dir c.args.latest) _ _ c.loop-name.invariant entry))
  | in_default w ↦ rw w.entries-is c.loop-name.invariant
]

pub returns-then-is_rising : goal.returns-then-is_rising
returns-then-is_rising g c =
    let sorted : c.from_vec.result ≡ c.sort.new.entries.items = c.from_vec.ensures in
    let rising : IsRising c.sort.new.entries.items = search rules in
    rw sorted (All-permutation (IsEntryOf c.args.dir c.args.latest) c.loop-name.entries.items c.sort.new.entries.items c.sort.ensures.same c.loop-name.invariant, rising)
