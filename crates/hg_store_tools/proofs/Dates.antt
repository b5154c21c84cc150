-- The days of years and of months.
use Rattle.std.proofs.Common.{◌≡◌, ℕ, suc, ◌+◌, ◌≤◌, ◌==◌, ◌||◌, cond, true, false, refl, ap, arith, lit≤}
use Rattle.hg_store_tools.specs.Date.{days_of_month, days_of_months, days_of_year, days_of_years, is_leap}

pub days_of_years-zero : days_of_years 0 ≡ 0
unfolding days_of_years
days_of_years-zero = refl

pub days_of_years-next : (count : ℕ) → days_of_years (count + 1) ≡ days_of_years count + days_of_year (1970 + count)
unfolding days_of_years
days_of_years-next count = let next : count + 1 ≡ suc count = omega arith in ap days_of_years next

pub days_of_months-zero : (year : ℕ) → days_of_months year 0 ≡ 0
unfolding days_of_months
days_of_months-zero year = refl

pub days_of_months-next : (year count : ℕ)
    → days_of_months year (count + 1) ≡ days_of_months year count + days_of_month year (1 + count)
unfolding days_of_months
days_of_months-next year count = let next : count + 1 ≡ suc count = omega arith in ap (days_of_months year) next

-- the days of the twelve months are those of the year
pub days_of_months-twelve : (year : ℕ) → days_of_months year 12 ≡ days_of_year year
unfolding days_of_months
days_of_months-twelve year =
    elim (is_leap year)
    as (λ leap. 0 + 31 + cond leap 29 28 + 31 + 30 + 31 + 30 + 31 + 31 + 30 + 31 + 30 + 31 ≡ cond leap 366 365) [
      | true ↦ refl
      | false ↦ refl
    ]

pub days_of_month-few : (year month : ℕ) → days_of_month year month ≤ 31
days_of_month-few year month =
    elim (month == 2)
    as (λ is. cond is (cond (is_leap year) 29 28)
    (cond ((month == 4) || ((month == 6) || ((month == 9) || (month == 11)))) 30 31) ≤ 31) [
      | true ↦ elim (is_leap year) as (λ is. cond is 29 28 ≤ 31) [ true ↦ lit≤ tt | false ↦ lit≤ tt ]
      | false ↦
          elim ((month == 4) || ((month == 6) || ((month == 9) || (month == 11)))) as (λ is. cond is 30 31 ≤ 31) [
            | true ↦ lit≤ tt
            | false ↦ lit≤ tt
          ]
    ]
