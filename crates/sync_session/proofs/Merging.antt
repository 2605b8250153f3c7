-- A lease puts no info.
use Rattle.std.specs.Prelude.{List, ℕ, Option}
use Rattle.jop_base.specs.declared.path.Path.TheVariants.{Info as InfoFile}
use Rattle.jop_target.specs.declared.call.Call.{Call}
use Rattle.jop_target.specs.declared.call.Call.TheVariants.{Put}
use Rattle.jop_target.specs.declared.reply.Reply.{Reply}
use Rattle.lease.specs.Calls.{IsLeaseCall}
use Rattle.law_licences.specs.Deeds.{Asks}
use Rattle.law_licences.specs.Licences.{MayMerge}
use Rattle.law_licences.specs.Views.{View}

pub merges_own : (client : List ℕ) (v : View) (call : Call) (reply : Option Reply)
    → IsLeaseCall client call → MayMerge v (Asks call reply)
merges_own client v (Put InfoFile content) reply own = let no = own.1 in absurd cc
merges_own client v call reply own = tt
