use Rattle.job_threads.specs.declared.outcome.Started.{Started}
use Rattle.job_threads.specs.declared.outcome.Started.TheVariants.{Runs, Ran}

-- the job that was started
abbrev pub started_job : {J D : Type 0} → Started J D → J
started_job (Runs handle) = handle.promise.0.value
started_job (Ran ran) = ran
