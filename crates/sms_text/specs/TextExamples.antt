-- Inputs worked modulo 7: a certificate, a trace and a script behind a matrix, and what is wrong with others.
use Rattle.std.specs.Prelude.{true, false, ℕ, List, [], ◌∷◌, ◌++◌, codes}
use Rattle.sms_text.specs.declared.kind.Kind.TheVariants as kind
use Rattle.sms_text.specs.OuterLines.{Certificate, Trace}
use Rattle.sms_text.specs.Text.{Header, Outer, Scripted, Item, Sizes, Value, Closing, Words, Request, Reads, FirstFault}

-- a matrix and a certificate; a matrix and a trace; a matrix and a script
abbrev pub example_check : Request
example_check = record { modulus = 7; limit = 1000; due = Header ∷ Outer Certificate ∷ [] }

abbrev pub example_replay : Request
example_replay = record { modulus = 7; limit = 1000; due = Header ∷ Outer Trace ∷ [] }

abbrev pub example_grow : Request
example_grow = record { modulus = 7; limit = 1000; due = Scripted ∷ [] }

-- the matrix (5), behind which these lines stand
abbrev pub behind_five : List ℕ → List ℕ
behind_five text = codes "1 1 M\n1 1 5\n0 0 0\n" ++ text

abbrev pub five_items : List Item
five_items = Sizes 1 1 ∷ Value 0 0 5 ∷ Closing ∷ []

abbrev pub one_items : List Item
one_items = Sizes 1 1 ∷ Value 0 0 1 ∷ Closing ∷ []

pub record AreWorkedTexts : Type 0 where
  pub certificate : Reads example_check
      (behind_five (codes "certificate rank 7 1\n% a\n01 1\n1 1 M\n1 1 5\n0 0 0\n1 1 M\n1 1 1\n0 0 0\n")) true
      (five_items ++ Words (codes "certificate" ∷ codes "rank" ∷ codes "7" ∷ codes "1" ∷ [])
      ∷ Words (codes "01" ∷ codes "1" ∷ []) ∷ five_items ++ one_items) []
  pub other_kind :
      FirstFault example_check (behind_five (codes "certificate Rank 7 1\n")) false 4 kind.Certificate
  pub few_words : FirstFault example_check (behind_five (codes "certificate rank 7")) true 4 kind.Certificate
  pub large_modulus : FirstFault example_check
      (behind_five (codes "certificate rank 281474976710656 2\n")) false 4 kind.Certificate
  pub large_rank :
      FirstFault example_check (behind_five (codes "certificate rank 7 2147483647\n")) true 5 kind.NoEnd
  pub zero_row :
      FirstFault example_check (behind_five (codes "certificate rank 7 2\n1 1\n0 1\n"))
      false 6 kind.Certificate
  pub no_factor : FirstFault example_check (behind_five (codes "certificate rank 7 0\n")) true 5 kind.NoHeader
  pub trace : Reads example_replay (behind_five (codes "trace 7 1\n1 1 0\n")) true
      (five_items ++ Words (codes "trace" ∷ codes "7" ∷ codes "1" ∷ [])
      ∷ Words (codes "1" ∷ codes "1" ∷ codes "0" ∷ []) ∷ []) []
  pub short_step : FirstFault example_replay (behind_five (codes "trace 7 1\n1 1\n")) true 5 kind.Trace
  pub no_step : FirstFault example_replay (behind_five (codes "trace 7 1\n")) true 5 kind.NoEnd
  pub script : Reads example_grow (behind_five (codes "row 1 2 1 1/3\nin\nend\n")) true
      (five_items ++ Words (codes "row" ∷ codes "1" ∷ codes "2" ∷ codes "1" ∷ codes "1/3" ∷ [])
      ∷ Words (codes "in" ∷ []) ∷ Words (codes "end" ∷ []) ∷ []) []
  pub wide_column : FirstFault example_grow (behind_five (codes "row 2 1\nend\n")) false 4 kind.Script
  pub zero_divisor : FirstFault example_grow (behind_five (codes "in 1 1/14\nend\n")) false 4 kind.Script
  pub no_end : FirstFault example_grow (behind_five (codes "rank\n")) true 5 kind.NoEnd
