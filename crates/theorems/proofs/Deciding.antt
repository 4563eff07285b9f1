-- The rows of the table "Turned away" decide a request as the checks of the meaning do; reading accepts a file exactly when no row of a file finds it wrong.
-- Assumes nothing.
use Prim.Native.Nat.{ℕ}
use mathlib.Core.Path.{◌≡◌, refl, ap, ◌∙◌}
use mathlib.Core.Option.{Option, none, some}
use mathlib.Core.List.{List, [], ◌∷◌, ◌++◌}
use Rattle.diagram.specs.Checks.{Check, heading_checks, variable_checks, scale_checks, record_checks, reward_checks, monotone_checks, table_checks}
use Rattle.diagram.specs.Services.{Outcome, refused, answered, checked, reading, read_outcome}
use Rattle.diagram.proofs.Checked.{checked-passes, checked_stops, checked_end, read-reading}
use Rattle.theorems.specs.Reasons.{Request, Reason, table_length, heading_word, word_count, variable_word, choice_limit, scale_limit, record_word, root_word, reward_limit, not_monotone, number_of, Wrong, file_reasons, FirstReason, at_first, further_on, NoReason, no_row, passes_row, file_alone, Accepted}
use Rattle.theorems.proofs.Rows.{Renders, row_11, row_12, row_13, row_14, row_15, row_16, row_17, row_26, row_27, row_18}

-- ---------------------------------------------------------------------------
-- What rows make of a request

-- They turn it away, or let it through to an answer
pub data Decided {A : Type 0} (q : Request) (rs : List Reason) (o : Outcome A) : Type 0 where
  stops : {n i : ℕ} → FirstReason q rs n i → o ≡ refused n i → Decided q rs o
  answers : (a : A) → NoReason q rs → o ≡ answered a → Decided q rs o

-- Rows in the order of the checks that look for them
pub data Rendered (q : Request) : List Reason → List Check → Type 0 where
  end : Rendered q [] []
  row : {r : Reason} {rs : List Reason} {c : Check} {cs : List Check} → c.number ≡ number_of r → Renders q r (c.fault q.file) → Rendered q rs cs → Rendered q (r ∷ rs) (c ∷ cs)

-- one row more in front
module _ {A : Type 0} {q : Request} {r : Reason} {rs : List Reason} where
  pub one_more : {o : Outcome A} → ((j : ℕ) → Wrong q r j → ⊥) → Decided q rs o → Decided q (r ∷ rs) o
  one_more p (stops t e) = stops (further_on p t) e
  one_more p (answers a l e) = answers a (passes_row p l) e

-- an outcome is decided as the same one is
pub decided_as : {A : Type 0} {q : Request} {rs : List Reason} {o u : Outcome A} → o ≡ u → Decided q rs u → Decided q rs o
decided_as e (stops t f) = stops t (e ∙ f)
decided_as e (answers a l f) = answers a l (e ∙ f)

-- the checks of a list decide by its rows, and what they let through is decided by the rows that follow
pub decide : {A : Type 0} {q : Request} {rs ts : List Reason} {cs : List Check} → Rendered q rs cs → (answer : List ℕ → Outcome A) → Decided q ts (answer q.file) → Decided q (rs ++ ts) (checked cs answer q.file)
decide end answer d = decided_as (checked_end answer _) d
decide {A} {q} {ts = ts} (row {r} {rs} {c} {cs} number h rest) answer d = go (c.fault q.file) refl (decide rest answer d)
  where
    go : (o : Option ℕ) → c.fault q.file ≡ o → Decided q (rs ++ ts) (checked cs answer q.file) → Decided q (r ∷ (rs ++ ts)) (checked (c ∷ cs) answer q.file)
    go none e later = decided_as (checked-passes c cs answer q.file e) (one_more (h.passes e) later)
    go (some i) e later =
        let f = h.finds i e in
        stops (at_first f.0 f.1) (checked_stops c cs answer q.file i e ∙ ap (λ (n : ℕ). refused n i) number)

-- an answer where no row is left
pub at_once : {A : Type 0} (q : Request) (a : A) → Decided q [] (answered a)
at_once q a = answers a no_row refl

-- ---------------------------------------------------------------------------
-- The rows of each service

-- rows and their checks, one list after the other
pub rendered_append : {q : Request} {rs ts : List Reason} {cs ds : List Check} → Rendered q rs cs → Rendered q ts ds → Rendered q (rs ++ ts) (cs ++ ds)
rendered_append end t = t
rendered_append (row number h rest) t = row number h (rendered_append rest t)

-- the parts of a table's checks
module _ (q : Request) where
  pub heading-rows : Rendered q (table_length ∷ heading_word ∷ word_count ∷ []) heading_checks
  unfolding number_of
  heading-rows = row refl (row_11 q) (row refl (row_12 q) (row refl (row_13 q) end))

  pub variable-rows : Rendered q (variable_word ∷ choice_limit ∷ []) variable_checks
  unfolding number_of
  variable-rows = row refl (row_14 q) (row refl (row_15 q) end)

  pub scale-rows : Rendered q (scale_limit ∷ []) scale_checks
  unfolding number_of
  scale-rows = row refl (row_16 q) end

  pub record-rows : Rendered q (record_word ∷ root_word ∷ []) record_checks
  unfolding number_of
  record-rows = row refl (row_17 q) (row refl (row_26 q) end)

  pub reward-rows : Rendered q (reward_limit ∷ []) reward_checks
  unfolding number_of
  reward-rows = row refl (row_27 q) end

  pub monotone-rows : Rendered q (not_monotone ∷ []) monotone_checks
  unfolding number_of
  monotone-rows = row refl (row_18 q) end

  pub file-rows : Rendered q file_reasons table_checks
  unfolding file_reasons table_checks
  file-rows =
      rendered_append heading-rows
      (rendered_append variable-rows
      (rendered_append scale-rows (rendered_append record-rows (rendered_append reward-rows monotone-rows))))

  pub read-decided : Decided q file_reasons (read_outcome q.file)
  unfolding file_reasons read_outcome
  read-decided = decide file-rows (λ file. answered (reading file)) (at_once q _)

-- ---------------------------------------------------------------------------
-- Accepted tables

-- where there is no reason, none is the first
no_first_reason : {q : Request} {rs : List Reason} {n i : ℕ} → NoReason q rs → FirstReason q rs n i → ⊥
no_first_reason (passes_row p l) (at_first w f) = p _ w
no_first_reason (passes_row p l) (further_on r t) = no_first_reason l t
no_first_reason {q = q} {n = n} {i = i} no_row x3 = elim x3 [ ]

-- reading answers an accepted table
pub accepted-read : (s : List ℕ) → Accepted s → read_outcome s ≡ answered (reading s)
accepted-read s h = go (read-decided (file_alone s))
  where
    go : Decided (file_alone s) file_reasons (read_outcome s) → read_outcome s ≡ answered (reading s)
    go (stops t e) = absurd (no_first_reason h t)
    go (answers a l e) = e ∙ ap answered (read-reading s a e)
