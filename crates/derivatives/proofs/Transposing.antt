-- The laws of the pass down: it is the transpose of the pass up, and it stays within its budget.
-- Assumes of the arcs that children have smaller numbers, and of the weights that there is one for each node.
use Prim.Native.Nat.{ℕ, zero, suc, ◌+◌, ◌*◌, ◌≤◌, ◌<◌, ◌^◌}
use native.Mathlib.Nat.{le_refl, mul-le-mul_left, eq-or-lt_of_le}
use native.Mathlib.Decide.{ℕ_discrete}
use native.Mathlib.Omega.{arith}
use mathlib.Core.Path.{◌≡◌, refl, ap, ◌∙◌}
use mathlib.Core.Logic.{⊎_elim, by_cases}
use mathlib.Core.List.{List}
use lib.ListN.{length, get_or, set, replicate, length-set, get_or-replicate}
use lib.Seq.{get_or-set_same, get_or-set_other}
use Rattle.valuing.specs.Passes.{Arcs}
use Rattle.derivatives.specs.Down.{dot, record_sum, added, hand_on, HandsOn, pass_down, Budget}

-- ---------------------------------------------------------------------------
-- Sums of weight times value

-- the sum over the nodes before i does not see cell i
dot_before : (ws : List ℕ) (v : ℕ → ℕ) (i x n : ℕ) → n ≤ i → dot (set ws i x) v n ≡ dot ws v n
unfolding dot
dot_before ws v i x zero h = refl
dot_before ws v i x (suc n) h = rw (get_or-set_other ws i n x 0 (omega arith), dot_before ws v i x n (omega arith))

-- x more at node i is x times its value more in the sum
pub dot-added : (ws : List ℕ) (v : ℕ → ℕ) (i x n : ℕ) → i < n → i < length ws → dot (added ws i x) v n ≡ dot ws v n + x * v i
unfolding dot added
dot-added ws v i x zero h l = absurd (omega arith)
dot-added ws v i x (suc n) h l =
    ⊎_elim
    (λ e. rw (← e, get_or-set_same ws i (get_or ws i 0 + x) 0 l, dot_before ws v i (get_or ws i 0 + x) i (le_refl i)) (omega arith))
    (λ less. rw (get_or-set_other ws i n (get_or ws i 0 + x) 0 (omega arith)) (omega (arith, dot-added ws v i x n less l)))
    (eq-or-lt_of_le {n = i} {m = n} (omega arith))

-- the sum's last term
dot-next : (ws : List ℕ) (v : ℕ → ℕ) (k : ℕ) → dot ws v (suc k + 2) ≡ dot ws v (k + 2) + get_or ws (k + 2) 0 * v (k + 2)
unfolding dot
dot-next ws v k =
    let e : suc k + 2 ≡ suc (k + 2) = omega arith in
    rw e refl

-- ---------------------------------------------------------------------------
-- A node hands its weight on

-- at n, the number that the code has for node i, a sum fits where it does at i
pub sum_fits : (ws : List ℕ) (n i x : ℕ) → n ≡ i → get_or ws i 0 + x < 2 ^ 64 → get_or ws n 0 + x < 2 ^ 64
sum_fits ws n i x e h = rw e h

-- writing the sum at n is the addition at node i
pub added_is : (ws : List ℕ) (n i x : ℕ) → n ≡ i → set ws n (get_or ws n 0 + x) ≡ added ws i x
unfolding added
added_is ws n i x e = rw e

-- the cell that an addition writes
added-here : (ws : List ℕ) (i x : ℕ) → i < length ws → get_or (added ws i x) i 0 ≡ get_or ws i 0 + x
unfolding added
added-here ws i x h = get_or-set_same ws i _ 0 h

-- no weight becomes less
added-le : (ws : List ℕ) (i x j : ℕ) → i < length ws → get_or ws j 0 ≤ get_or (added ws i x) j 0
unfolding added
added-le ws i x j h =
    by_cases (ℕ_discrete i j)
    (λ e. rw (← e, get_or-set_same ws i (get_or ws i 0 + x) 0 h) (omega arith))
    (λ ne. rw (get_or-set_other ws i j (get_or ws i 0 + x) 0 (omega arith)) (le_refl _))

-- the cells after it stay
added_other : (ws : List ℕ) (i x j : ℕ) → i < j → get_or (added ws i x) j 0 ≡ get_or ws j 0
unfolding added
added_other ws i x j h = get_or-set_other ws i j _ 0 (omega arith)

-- an addition keeps the length
pub added-length : (ws : List ℕ) (i x : ℕ) → length (added ws i x) ≡ length ws
unfolding added
added-length ws i x = simp length-set refl

-- a handing on keeps the length
pub hand_on-length : (a : Arcs) (m : ℕ) (ws : List ℕ) → length (hand_on a m ws) ≡ length ws
unfolding hand_on
hand_on-length a m ws = rw (added-length, added-length)

-- only the weights of the children change
pub hand_on_other : (a : Arcs) (m : ℕ) (ws : List ℕ) (i : ℕ) → get_or a.high m 0 < i → get_or a.low m 0 < i → get_or (hand_on a m ws) i 0 ≡ get_or ws i 0
unfolding hand_on
hand_on_other a m ws i h l = added_other _ _ _ i l ∙ added_other ws _ _ i h

-- what the children are handed, times their values, is more in the sum
hand_on-dot : (a : Arcs) (m : ℕ) (ws : List ℕ) (v : ℕ → ℕ) → get_or a.high m 0 < m → get_or a.low m 0 < m → m ≤ length ws → dot (hand_on a m ws) v m ≡ dot ws v m + get_or ws m 0 * (get_or a.high_weights m 0 * v (get_or a.high m 0) + get_or a.low_weights m 0 * v (get_or a.low m 0))
unfolding hand_on
hand_on-dot a m ws v h l size =
    let x = get_or ws m 0 * get_or a.high_weights m 0 in
    let y = get_or ws m 0 * get_or a.low_weights m 0 in
    let one = added ws (get_or a.high m 0) x in
    let long = added-length ws (get_or a.high m 0) x in
    omega (arith, dot-added ws v (get_or a.high m 0) x m h (omega arith), dot-added one v (get_or a.low m 0) y m l (omega arith))

-- the first addition fits; n and h are the numbers that the code has for the node and its hi child
pub first_fits : (a : Arcs) (m : ℕ) (ws : List ℕ) → HandsOn a m ws → m ≤ length ws → (n h : ℕ) → n ≡ m → h ≡ get_or a.high m 0 → get_or ws h 0 + get_or ws n 0 * get_or a.high_weights n 0 ≤ 2 ^ 56
unfolding hand_on
first_fits a m ws fits size n h en eh =
    let hi = fits.0 in
    let lo = fits.1 in
    let x = get_or ws m 0 * get_or a.high_weights m 0 in
    let high = get_or a.high m 0 in
    let long = added-length ws high x in
    rw (en, eh) (omega (arith, fits.2 high hi, added-here ws high x (omega arith), added-le (added ws high x) (get_or a.low m 0) (get_or ws m 0 * get_or a.low_weights m 0) high (omega arith)))

-- the second addition fits, to the weights `one` that the first has left
pub second_fits : (a : Arcs) (m : ℕ) (ws : List ℕ) → HandsOn a m ws → m ≤ length ws → (one : List ℕ) (n h l w : ℕ) → n ≡ m → h ≡ get_or a.high m 0 → l ≡ get_or a.low m 0 → w ≡ get_or a.low_weights n 0 → one ≡ added ws h (get_or ws n 0 * get_or a.high_weights n 0) → get_or one l 0 + get_or ws n 0 * w ≤ 2 ^ 56
unfolding hand_on
second_fits a m ws fits size one n h l w en eh el ew e1 =
    let lo = fits.1 in
    let x = get_or ws m 0 * get_or a.high_weights m 0 in
    let high = get_or a.high m 0 in
    let low = get_or a.low m 0 in
    let long = added-length ws high x in
    rw (e1, ew, en, eh, el) (omega (arith, fits.2 low lo, added-here (added ws high x) low (get_or ws m 0 * get_or a.low_weights m 0) (omega arith)))

-- the two additions are the handing on
pub both-added : (a : Arcs) (m : ℕ) (ws : List ℕ) (one two : List ℕ) (n h l w : ℕ) → n ≡ m → h ≡ get_or a.high m 0 → l ≡ get_or a.low m 0 → w ≡ get_or a.low_weights n 0 → one ≡ added ws h (get_or ws n 0 * get_or a.high_weights n 0) → two ≡ added one l (get_or ws n 0 * w) → two ≡ hand_on a m ws
unfolding hand_on
both-added a m ws one two n h l w en eh el ew e1 e2 = rw (e2, e1, ew, en, eh, el)

-- ---------------------------------------------------------------------------
-- The pass down is the transpose of the pass up

-- the weights of nodes from n + 2 on stay as they are
pub stays : (a : Arcs) (n : ℕ) (ws : List ℕ) → ((k : ℕ) → k < n → get_or a.high (k + 2) 0 < k + 2) → ((k : ℕ) → k < n → get_or a.low (k + 2) 0 < k + 2) → (i : ℕ) → n + 2 ≤ i → get_or (pass_down a n ws) i 0 ≡ get_or ws i 0
unfolding pass_down
stays a zero ws high low i h = refl
stays a (suc k) ws high low i h =
    let hi = high k (omega arith) in
    let lo = low k (omega arith) in
    stays a k (hand_on a (k + 2) ws) (λ j l. high j (omega arith)) (λ j l. low j (omega arith)) i (omega arith) ∙
    hand_on_other a (k + 2) ws i (omega arith) (omega arith)

-- the pass down is the transpose of the pass up, whatever the weights to begin with: r is what the value of a record falls short of its children's
pub transposed : (a : Arcs) (n : ℕ) (ws : List ℕ) (v r : ℕ → ℕ) → ((k : ℕ) → k < n → get_or a.high (k + 2) 0 < k + 2) → ((k : ℕ) → k < n → get_or a.low (k + 2) 0 < k + 2) → n + 2 ≤ length ws → ((k : ℕ) → k < n → v (k + 2) + r k ≡ get_or a.high_weights (k + 2) 0 * v (get_or a.high (k + 2) 0) + get_or a.low_weights (k + 2) 0 * v (get_or a.low (k + 2) 0)) → dot ws v (n + 2) + record_sum (pass_down a n ws) r n ≡ dot (pass_down a n ws) v 2
unfolding pass_down record_sum
transposed a zero ws v r high low size short = omega arith
transposed a (suc k) ws v r high low size short =
    let hi = high k (omega arith) in
    let lo = low k (omega arith) in
    let next = hand_on a (k + 2) ws in
    let same : get_or (pass_down a k next) (k + 2) 0 ≡ get_or ws (k + 2) 0 = stays a k next (λ j l. high j (omega arith)) (λ j l. low j (omega arith)) (k + 2) (le_refl _) ∙ hand_on_other a (k + 2) ws (k + 2) hi lo in
    let before = transposed a k next v r (λ j l. high j (omega arith)) (λ j l. low j (omega arith)) (omega (arith, hand_on-length a (k + 2) ws)) (λ j l. short j (omega arith)) in
    rw same (omega (arith, before, hand_on-dot a (k + 2) ws v hi lo (omega arith), dot-next ws v k, ap (λ (z : ℕ). get_or ws (k + 2) 0 * z) (short k (omega arith))))

-- ---------------------------------------------------------------------------
-- The budget

-- a handing on keeps the budget of the records before
pub budget-next : {a : Arcs} {k : ℕ} {scales : ℕ → ℕ} {ws : List ℕ} → Budget a (suc k) scales ws → suc k + 2 ≤ length ws → Budget a k scales (hand_on a (k + 2) ws)
budget-next {a} {k} {scales} {ws} b size =
    let hi = b.high_less k (omega arith) in
    let lo = b.low_less k (omega arith) in
    record {
      positive = b.positive;
      steps = λ j l. b.steps j (omega arith);
      total = omega (arith, b.total, hand_on-dot a (k + 2) ws scales hi lo (omega arith), dot-next ws scales k, mul-le-mul_left (get_or ws (k + 2) 0) (b.steps k (omega arith)));
      high_less = λ j l. b.high_less j (omega arith);
      low_less = λ j l. b.low_less j (omega arith);
    }

-- a term of the sum is at most the sum
pub dot_term : (ws : List ℕ) (v : ℕ → ℕ) (i n : ℕ) → i < n → get_or ws i 0 * v i ≤ dot ws v n
unfolding dot
dot_term ws v i zero h = absurd (omega arith)
dot_term ws v i (suc n) h =
    ⊎_elim
    (λ e. rw e (omega arith))
    (λ less. omega (arith, dot_term ws v i n less))
    (eq-or-lt_of_le {n = i} {m = n} (omega arith))

-- within the budget every weight is at most 2^56
pub budget-weight : {a : Arcs} {n : ℕ} {scales : ℕ → ℕ} {ws : List ℕ} → Budget a n scales ws → (i : ℕ) → i < n + 2 → get_or ws i 0 ≤ 2 ^ 56
budget-weight {a} {n} {scales} {ws} b i h =
    omega (arith, b.total, dot_term ws scales i (n + 2) h, mul-le-mul_left (get_or ws i 0) (b.positive i))

-- ---------------------------------------------------------------------------
-- A turn of the pass, from k records to j, one less; node is the number that the code has for the node

-- the turn may call `hand_on`
pub turn_fits : {a : Arcs} {k : ℕ} {scales : ℕ → ℕ} {ws : List ℕ} → Budget a k scales ws → k + 2 ≤ length ws → (j node : ℕ) → k ≡ suc j → node ≡ j + 2 → HandsOn a node ws
turn_fits b size j node ek en =
    let b = rw ek at b in
    rw en (b.high_less j (omega arith), b.low_less j (omega arith), budget-weight (budget-next b (omega arith)))

-- the turn keeps the budget
pub turn_budget : {a : Arcs} {k : ℕ} {scales : ℕ → ℕ} {ws : List ℕ} → Budget a k scales ws → k + 2 ≤ length ws → (j node : ℕ) → k ≡ suc j → node ≡ j + 2 → Budget a j scales (hand_on a node ws)
turn_budget b size j node ek en = rw en (budget-next (rw ek at b) (omega arith))

-- what is still to be passed down after the turn gives the same
pub turn_passes : (a : Arcs) (k : ℕ) (ws : List ℕ) (j node : ℕ) → k ≡ suc j → node ≡ j + 2 → pass_down a j (hand_on a node ws) ≡ pass_down a k ws
unfolding pass_down
turn_passes a k ws j node ek en = rw (ek, en) refl

-- with no records left, the weights are what the pass gives
pub pass_end : (a : Arcs) (k : ℕ) (ws whole : List ℕ) → k ≡ 0 → pass_down a k ws ≡ whole → ws ≡ whole
unfolding pass_down
pass_end a k ws whole ek e = rw ek at e

-- ---------------------------------------------------------------------------
-- No weights to begin with

-- a cell of a list of zeros
zeros-at : (m n : ℕ) → n < m → ◌≡◌ {A = ℕ} (get_or (replicate m 0) n 0) 0
zeros-at m n h = get_or-replicate m n 0 0 h

-- without weights the sum is zero
pub dot-zeros : (m : ℕ) (v : ℕ → ℕ) (n : ℕ) → n ≤ m → dot (replicate m 0) v n ≡ 0
unfolding dot
dot-zeros m v zero h = refl
dot-zeros m v (suc n) h = rw (zeros-at m n (omega arith), dot-zeros m v n (omega arith)) (omega arith)
