-- What the rounds of a schedule make of a block.
use Rattle.std.proofs.Common.{◌≡◌, ℕ, zero, suc, ◌+◌, ◌-◌, ◌*◌, ◌≤◌, ◌<◌, List, take, drop, sym, ap, ◌∙◌, arith}
use Rattle.std.proofs.lemmas.List.{drop-take, take-take}
use Rattle.aes_ccm.specs.Lists.{xored}
use Rattle.aes_ccm.specs.Aes.{aes, after_rounds, mix_columns, round_key, schedule, shift_rows, state_after, sub_bytes}
use Rattle.aes_ccm.specs.Schedule.{scheduled_key, IsSchedule}
use Rattle.aes_ccm.specs.declared.aes.Aes.TheInside.{Inside}

-- one round more
pub state_step : (words block state key next : List ℕ) (n : ℕ) → 1 ≤ n → state ≡ state_after words block (n - 1)
    → key ≡ round_key words n → next ≡ xored (mix_columns (shift_rows (sub_bytes state))) key
    → next ≡ state_after words block (n + 1 - 1)
unfolding state_after
state_step words block state key next zero some held ek made = absurd (omega arith)
state_step words block state key next (suc n) some held ek made =
    let before : suc n - 1 ≡ n = omega arith in
    let after : suc n + 1 - 1 ≡ suc n = omega arith in
    let same : state ≡ state_after words block n = rw before at held in
    rw after (made ∙ (λ i. xored (mix_columns (shift_rows (sub_bytes (same i)))) (ek i)))

-- the last round
pub rounds_end : (words block state key out : List ℕ) (n rounds : ℕ) → n ≡ rounds → state ≡ state_after words block (n - 1)
    → key ≡ round_key words rounds → out ≡ xored (shift_rows (sub_bytes state)) key → out ≡ after_rounds words block rounds
rounds_end words block state key out n rounds e held ek made =
    let same : state ≡ state_after words block (rounds - 1) = rw e at held in
    made ∙ (λ i. xored (shift_rows (sub_bytes (same i))) (ek i))

-- ---- what the rounds need of the words

round_key-take : (words : List ℕ) (n m : ℕ) → n < m → round_key (take (16 * m) words) n ≡ round_key words n
round_key-take words n m lt =
    let e : 16 * m ≡ 16 * n + (16 * m - 16 * n) = omega arith in
    let cut : drop (16 * n) (take (16 * n + (16 * m - 16 * n)) words) ≡ take (16 * m - 16 * n) (drop (16 * n) words) = drop-take (16 * n) (16 * m - 16 * n) words in
    rw (ap (λ (k : ℕ). take 16 (drop (16 * n) (take k words))) e, cut) (take-take 16 (16 * m - 16 * n) (drop (16 * n) words) (omega arith))

state_after-take : (words block : List ℕ) (n m : ℕ) → n < m → state_after (take (16 * m) words) block n ≡ state_after words block n
unfolding state_after
state_after-take words block zero m lt = ap (xored block) (round_key-take words 0 m lt)
state_after-take words block (suc n) m lt =
    let before = state_after-take words block n m (omega arith) in
    ap (λ (s : List ℕ). xored (mix_columns (shift_rows (sub_bytes s))) (round_key (take (16 * m) words) (suc n))) before
    ∙ ap (xored (mix_columns (shift_rows (sub_bytes (state_after words block n))))) (round_key-take words (suc n) m lt)

-- the rounds need the first words alone
pub after_rounds-take : (words block : List ℕ) (rounds m : ℕ) → 1 ≤ rounds → rounds < m → after_rounds (take (16 * m) words) block rounds ≡ after_rounds words block rounds
after_rounds-take words block rounds m some lt =
    let before : state_after (take (16 * m) words) block (rounds - 1) ≡ state_after words block (rounds - 1) = state_after-take words block (rounds - 1) m (omega arith) in
    ap (λ (s : List ℕ). xored (shift_rows (sub_bytes s)) (round_key (take (16 * m) words) rounds)) before
    ∙ ap (xored (shift_rows (sub_bytes (state_after words block (rounds - 1))))) (round_key-take words rounds m lt)

-- the rounds of the words that an `Aes` holds are those of its key
pub enciphered : (a : Inside) (block : List ℕ) → IsSchedule a → 1 ≤ a.rounds → after_rounds a.words block a.rounds ≡ aes (scheduled_key a) block
unfolding aes
enciphered a block held some =
    sym (after_rounds-take a.words block a.rounds (a.rounds + 1) some (omega arith))
    ∙ ap (λ (ws : List ℕ). after_rounds ws block a.rounds) held.words
    ∙ ap (after_rounds (schedule (scheduled_key a)) block) held.rounds
