-- The numbers of an accepted command lie in their ranges.
use Rattle.std.proofs.Common.{ℕ, suc, ◌≡◌, ◌-◌, ◌<◌, ◌≤◌, All, List, Option, Some, None, ap, arith}
use Rattle.std.specs.Prelude.{unwrap_or}
use Rattle.residue_words.specs.declared.modulus.TheConstants.{MODULUS_BOUND}
use Rattle.spasm_words.specs.declared.generator.TheConstants.{LARGEST_GENERATED}
use Rattle.spasm_words.specs.declared.command.Command.{Command}
use Rattle.spasm_words.specs.declared.command.Task.{Task}
use Rattle.spasm_words.specs.declared.command.Task.TheVariants.{Rank, Rref, Kernel, Solve, LeftKernel, Inverse, Pivots, Check, Trace, Replay, Grow, Drill, Certify}
use Rattle.spasm_words.specs.Words.{Accepted, Given, InRange, IsNumber, IsOfSizes, IsSetBy, Rule, cols_rule, modulus_rule, own_settings, rows_rule, setting, workers_rule}

-- a number of an option, where the one that stands for nothing lies in the range too
abbrev pub ranged : List ℕ → ℕ → ℕ → Option ℕ → Rule
ranged name low high absent = record { name = name; values = InRange low high; absent = absent }

pub number_in_range : (name : List ℕ) (low high : ℕ) (absent : Option ℕ) (text : Option (List ℕ)) (n : ℕ) → ((m : ℕ) → absent ≡ Some m → (low ≤ m) × (m ≤ high)) → IsNumber (ranged name low high absent) text n → (low ≤ n) × (n ≤ high)
number_in_range name low high absent None n default is = default n is
number_in_range name low high absent (Some w) n default is = (is.2, is.3)

by_default : (low high d m : ℕ) → Some d ≡ Some m → low ≤ d → d ≤ high → (low ≤ m) × (m ≤ high)
by_default low high d m e l h = let same : d ≡ m = ap (λ (o : Option ℕ). unwrap_or o 0) e in (omega (arith, same, l), omega (arith, same, h))

pub no_default : (low high m : ℕ) → None ≡ Some m → (low ≤ m) × (m ≤ high)
no_default low high m e = absurd cc

-- the modulus and the number of workers that options set
pub modulus_set : (options : List Given) (p : ℕ) → IsSetBy options (setting modulus_rule p) → (2 ≤ p) × (p < MODULUS_BOUND)
modulus_set options p is =
    let range = number_in_range modulus_rule.name 2 (MODULUS_BOUND - 1) (Some 42013) is.0 p (λ m e. by_default 2 (MODULUS_BOUND - 1) 42013 m e (omega arith) (omega arith)) is.2 in
    (range.0, omega (arith, range.1))

pub workers_set : (options : List Given) (n : ℕ) → IsSetBy options (setting workers_rule n) → (1 ≤ n) × (n ≤ 64)
workers_set options n is = number_in_range workers_rule.name 1 64 (Some 1) is.0 n (λ m e. by_default 1 64 1 m e (omega arith) (omega arith)) is.2

pub modulus_in_range : (words : List (List ℕ)) (c : Command) → Accepted words c → (2 ≤ c.modulus) × (c.modulus < MODULUS_BOUND)
modulus_in_range words c a = modulus_set a.options c.modulus (a.set 0 (setting modulus_rule 0) (omega arith))

pub workers_in_range : (words : List (List ℕ)) (c : Command) → Accepted words c → (1 ≤ c.workers) × (c.workers ≤ 64)
workers_in_range words c a = workers_set a.options c.workers (a.set 1 (setting workers_rule 0) (omega arith))

-- what a task's own options set
own_sizes : (options : List Given) (t : Task) → All (IsSetBy options) (own_settings t) → IsOfSizes t
own_sizes options Rank set = tt
own_sizes options Rref set = tt
own_sizes options Kernel set = tt
own_sizes options Solve set = tt
own_sizes options LeftKernel set = tt
own_sizes options Inverse set = tt
own_sizes options Pivots set = tt
own_sizes options Check set = tt
own_sizes options Trace set = tt
own_sizes options Replay set = tt
own_sizes options Grow set = tt
own_sizes options (Drill g) set =
    let rows = set 1 (setting rows_rule 0) (omega arith) in
    let cols = set 2 (setting cols_rule 0) (omega arith) in
    let height = number_in_range rows_rule.name 1 LARGEST_GENERATED None rows.0 g.rows (λ m e. no_default 1 LARGEST_GENERATED m e) rows.2 in
    let width = number_in_range cols_rule.name 1 LARGEST_GENERATED None cols.0 g.cols (λ m e. no_default 1 LARGEST_GENERATED m e) cols.2 in
    record { rows = height.1; some = width.0; cols = width.1 }
own_sizes options (Certify kind) set = tt

pub sizes_in_range : (words : List (List ℕ)) (c : Command) → Accepted words c → IsOfSizes c.task
sizes_in_range words c a = own_sizes a.options c.task (λ k d lt. a.set (suc (suc (suc k))) d (omega arith))
