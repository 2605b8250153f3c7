use Rattle.std.proofs.Common.{◌≡◌, drop}
use Rattle.test_script.specs.Script.{after_script}
use Rattle.test_script.proofs.scripted_target.make_script.Given as goal

-- what is left of the script leads from here to where the whole leads from the start
abbrev pub invariant-loop-scripted : goal.invariant-loop-scripted
invariant-loop-scripted l =
    after_script l.number (drop l.scripted-index l.script) l.inner.store
    ≡ after_script l.number l.script l.fn.inner.store
