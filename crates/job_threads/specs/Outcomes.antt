-- What a thread gives back of its job, and what is asked of what starts threads.
use Rattle.std.specs.Prelude.{◌≡◌, Result}
use Rattle.std.specs.Result.{ForOk, ForErr}
use Rattle.job_threads.specs.declared.outcome.Outcome.{Outcome}
use Rattle.job_threads.specs.declared.outcome.Outcome.TheVariants.{Ended, Back}

-- what comes back is of this job: it comes of it, or is it
abbrev pub IsOutcomeOf : {J D : Type 0} → (J → D → Type 0) → J → Outcome D J → Type 0
IsOutcomeOf gives job (Ended made) = gives job made
IsOutcomeOf gives job (Back same) = same ≡ job

-- each answer of what starts a job is that job, started or handed back
abbrev pub StartsOrHandsBack : {F J H : Type 0} → (F → J → Result H J → Type 0) → (H → J) → F → Type 0
StartsOrHandsBack {F} {J} {H} post job_of begin =
    (job : J) (answer : Result H J) → post begin job answer →
    ForOk answer (λ started. job_of started ≡ job) × ForErr answer (λ back. back ≡ job)
