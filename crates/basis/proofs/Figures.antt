-- How many figures a number has.
use Rattle.std.proofs.Common.{◌≡◌, ℕ, ◌+◌, ◌/◌, ◌%◌, ◌^◌, ◌<◌, ◌≤◌, length, decimal, ap, ◌∙◌, arith, lit<, lit≤}
use Rattle.std.proofs.lemmas.Fmt.{decimal_digit, decimal_step, length-decimal-le}
use Rattle.std.proofs.lemmas.List.{length_push}

pub count-one : (n : ℕ) → n < 10 → length (decimal n) ≡ 1
count-one n h = ap length (decimal_digit n h)

pub count-step : (n : ℕ) → 10 ≤ n → n < 2 ^ 64 → length (decimal n) ≡ length (decimal (n / 10)) + 1
count-step n h k = ap length (decimal_step n h k) ∙ length_push (decimal (n / 10)) (48 + n % 10)

pub count-bound : (n : ℕ) → n < 2 ^ 64 → length (decimal n) ≤ 20
count-bound n h = length-decimal-le 20 n (lit< tt) (let b : (2 ^ 64) ≤ (10 ^ 20) = lit≤ tt in omega arith) h
