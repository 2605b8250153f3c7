-- How long a date is, and that its text shows no other.
use Rattle.std.proofs.Common.{◌≡◌, ℕ, zero, suc, ◌≤◌, length, refl, ap, arith, inl}
use Rattle.std.proofs.lemmas.List.{length-append}
use Rattle.httpdate.specs.Date.{unix_secs, date_text}
use Rattle.httpdate.specs.Text.{day_name, month_name}
use Rattle.httpdate.specs.Valid.{parts_secs}
use Rattle.httpdate.specs.declared.date.HttpDate.{HttpDate}
use Rattle.httpdate.proofs.Theorems.{IsDateText_unique}

day_long : (n : ℕ) → 1 ≤ n → n ≤ 7 → length (day_name n) ≡ 3
day_long zero lo hi = absurd (omega arith)
day_long (suc zero) lo hi = refl
day_long (suc (suc zero)) lo hi = refl
day_long (suc (suc (suc zero))) lo hi = refl
day_long (suc (suc (suc (suc zero)))) lo hi = refl
day_long (suc (suc (suc (suc (suc zero))))) lo hi = refl
day_long (suc (suc (suc (suc (suc (suc zero)))))) lo hi = refl
day_long (suc (suc (suc (suc (suc (suc (suc zero))))))) lo hi = refl
day_long (suc (suc (suc (suc (suc (suc (suc (suc n)))))))) lo hi = absurd (omega arith)

month_long : (n : ℕ) → 1 ≤ n → n ≤ 12 → length (month_name n) ≡ 3
month_long zero lo hi = absurd (omega arith)
month_long (suc zero) lo hi = refl
month_long (suc (suc zero)) lo hi = refl
month_long (suc (suc (suc zero))) lo hi = refl
month_long (suc (suc (suc (suc zero)))) lo hi = refl
month_long (suc (suc (suc (suc (suc zero))))) lo hi = refl
month_long (suc (suc (suc (suc (suc (suc zero)))))) lo hi = refl
month_long (suc (suc (suc (suc (suc (suc (suc zero))))))) lo hi = refl
month_long (suc (suc (suc (suc (suc (suc (suc (suc zero)))))))) lo hi = refl
month_long (suc (suc (suc (suc (suc (suc (suc (suc (suc zero))))))))) lo hi = refl
month_long (suc (suc (suc (suc (suc (suc (suc (suc (suc (suc zero)))))))))) lo hi = refl
month_long (suc (suc (suc (suc (suc (suc (suc (suc (suc (suc (suc zero))))))))))) lo hi = refl
month_long (suc (suc (suc (suc (suc (suc (suc (suc (suc (suc (suc (suc zero)))))))))))) lo hi = refl
month_long (suc (suc (suc (suc (suc (suc (suc (suc (suc (suc (suc (suc (suc n))))))))))))) lo hi =
    absurd (omega arith)

pub date_long : (date : HttpDate) → length (date_text date) ≡ 29
date_long date =
    let day : length (day_name date.parts.wday) ≡ 3 = day_long date.parts.wday
    (omega (arith, date.right_day)) (omega (arith, date.right_day)) in
    let month : length (month_name date.parts.mon) ≡ 3 = month_long date.parts.mon date.civil.1.0
    date.civil.1.1 in
    simp length-append (omega (arith, day, month))

-- dates of one text are of one second
pub same_date : (a b : HttpDate) → date_text a ≡ date_text b → a.parts ≡ b.parts
same_date a b e = IsDateText_unique (date_text a) a b (inl refl) (inl e)

pub same_secs : (a b : HttpDate) → date_text a ≡ date_text b → unix_secs a ≡ unix_secs b
same_secs a b e = ap parts_secs (same_date a b e)
