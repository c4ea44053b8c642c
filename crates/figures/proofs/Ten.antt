-- The ten figures of the rules in one theorem, each from the definitions. Above each stands the rules' own sentence. Assumes nothing.
--
-- Figures 1, 2 and 4 to 8 are condition tables: so many directions of one q, the coefficients row by row, and the misclosures w. `reply_to`
-- is the reply of the adjustment to the table, lent with all directions 0; K_in, R_in, u_in and Q_in are the lists of K, R, u and Q, and
-- answers_in has these and those of V and the adjusted directions, and zeros is six lists of one 0.
-- Figure 3 is a file and its listing, byte for byte (listing's proofs/Figure3.antt). Figures 9 and 10 are the sightings of one position at a station.
use mathlib.Core.Path.{◌≡◌, refl, sym, subst}
use mathlib.Core.List.{List, [], ◌∷◌, ◌++◌}
use Prim.Native.Nat.{ℕ, ◌≤◌}
use lib.IntN.{ℤ, pos, neg_ℤ, nat_abs, ◌-ℤ◌, ◌*ℤ◌}
use lib.ListN.{replicate}
use Rattle.exact.specs.Circle.{C}
use Rattle.reply.specs.Numbers.{number_of, place_of}
use Rattle.reply.specs.declared.Refusal.{Refusal}
use Rattle.reply.specs.Reply.{Reply}
use Rattle.doolittle.specs.Solution.{N}
use Rattle.adjustment.proofs.Figures.{Figure as Table, reply_to, table_in, answers_in, zeros, K_in, R_in, u_in, Q_in, figure_1, figure_2, figure_5, figure_6, figure_7, figure_8}
use Rattle.listing.specs.File.{file_reply, listing_of}
use Rattle.listing.specs.declared.Sheet.TheVariants.{Plain, WithErrors}
use Rattle.listing.proofs.Figure3.{file, listing, errors_line, figure_3}
use Rattle.station.specs.Sightings.{Book, book}
use Rattle.station.specs.Table.{counts, readings}
use Rattle.station.specs.Means.{g, directions, pair_counts}
use Rattle.station.specs.Replies.{reply_of}
use Rattle.station.proofs.StationFigures.{figure_9, figure_10_whole, figure_10_three}
use Rattle.figures.proofs.Repeated.{repeated}
use Rattle.std.specs.Prelude.{Ok, Err}

-- a whole number below 0
abbrev minus : ℕ → ℤ
minus n = neg_ℤ (pos n)

-- a condition table: m directions of inverse weight q, the coefficients a row by row, and the misclosures w
abbrev pub table : (m q : ℕ) (a w : List ℤ) → Table
table m q a w = record { m = m; q = q; coefficients = a; misclosures = w }

-- the same number, so many times
abbrev pub all : ℕ → ℕ → List ℤ
all count a = replicate count (pos a)

-- a refusal of this number at this place
abbrev pub Refuses : (number place : ℕ) → Reply → Type 0
Refuses number place (Ok _) = ⊥
Refuses number place (Err why) = (number_of why ≡ number) × (place_of why ≡ place)

-- four sightings of position 1: objects 1, 1, 2, 2, left and right in turn, with these readings
abbrev pub sighted : (left₁ right₁ left₂ right₂ : ℕ) → Book
sighted left₁ right₁ left₂ right₂ =
    book (all 4 1) (pos 1 ∷ pos 1 ∷ pos 2 ∷ pos 2 ∷ []) (pos 0 ∷ pos 1 ∷ pos 0 ∷ pos 1 ∷ []) (pos left₁ ∷ pos right₁ ∷ pos left₂ ∷ pos right₂ ∷ [])

-- the answer for all 16 objects: object 1 at 0 and object 2 at this direction, P = 1 for both; fourteen objects never seen have 0 and 0
abbrev pub Means : Book → ℕ → Type 0
Means b direction =
    (reply_of b 16 16 ≡ Ok tt)
    × ((directions (counts b) (readings b) ≡ pos 0 ∷ pos direction ∷ all 14 0)
    × (pair_counts (counts b) ≡ pos 1 ∷ pos 1 ∷ all 14 0))

-- g of object 2 in position 1
abbrev pub g_of : Book → ℤ
g_of b = g (readings b) 0 1

-- 1. "a = -306, 694, -1,058, w = -79,200, q = 1: N = 1,694,636, K = 467,357, R = -2,948, u = -1,430, 3,243, -4,945, Q = 3,200,000."
abbrev pub One : Type 0
One =
    let t = table 3 1 (minus 306 ∷ pos 694 ∷ minus 1058 ∷ []) (minus 79200 ∷ []) in
    (reply_to t ≡ Ok tt)
    × (N (table_in t) 0 0 ≡ pos 1694636)
    × (K_in t ≡ pos 467357 ∷ [])
    × (R_in t ≡ minus 2948 ∷ [])
    × (u_in t ≡ minus 1430 ∷ pos 3243 ∷ minus 4945 ∷ [])
    × (Q_in t ≡ pos 3200000 ∷ [])

-- 2. "a = -100, 100, -100, 100, w = 9,300: K = -2,325,000, u = 2,325, -2,325, 2,325, -2,325, R = 0."
abbrev pub Two : Type 0
Two =
    let t = table 4 1 (minus 100 ∷ pos 100 ∷ minus 100 ∷ pos 100 ∷ []) (pos 9300 ∷ []) in
    (reply_to t ≡ Ok tt)
    × (K_in t ≡ minus 2325000 ∷ [])
    × (u_in t ≡ pos 2325 ∷ minus 2325 ∷ pos 2325 ∷ minus 2325 ∷ [])
    × (R_in t ≡ pos 0 ∷ [])

-- 3. "The file below." With an E line its listing is the same and that line.
abbrev pub Three : Type 0
Three = (file_reply file ≡ Ok tt) × (listing_of Plain file ≡ listing) × (listing_of WithErrors file ≡ listing ++ errors_line)

-- 4. "Two conditions 100, 100, equal or unequal w: 6 at row 2." So it is for every w and w' in range. W-203: "figure 4 stays refused".
abbrev pub Four : Type 0
Four = (w w' : ℤ) → nat_abs w ≤ 1000000 → nat_abs w' ≤ 1000000 → Refuses 6 2 (reply_to (table 2 1 (all 4 100) (w ∷ w' ∷ [])))

-- 5. "a = 10, q = 1: w = 1,000 accepted with K = -100,000,000; w = 1,001 is 7."
abbrev pub Five : Type 0
Five =
    (reply_to (table 1 1 (pos 10 ∷ []) (pos 1000 ∷ [])) ≡ Ok tt)
    × (K_in (table 1 1 (pos 10 ∷ []) (pos 1000 ∷ [])) ≡ minus 100000000 ∷ [])
    × Refuses 7 1 (reply_to (table 1 1 (pos 10 ∷ []) (pos 1001 ∷ [])))

-- 6. "a = 9, q = 1, w = 0". W-203: "Figure 6 becomes accepted with everything zero": V, u, adjusted direction, K, R and Q.
abbrev pub Six : Type 0
Six =
    let t = table 1 1 (pos 9 ∷ []) (pos 0 ∷ []) in
    (reply_to t ≡ Ok tt) × (answers_in t ≡ zeros)

-- 7. "Four directions, a = 2,000, q = 10, w = 200: K = -13, R = -80,000,000, so 8."
abbrev pub Seven : Type 0
Seven =
    let t = table 4 10 (all 4 2000) (pos 200 ∷ []) in
    (K_in t ≡ minus 13 ∷ []) × (R_in t ≡ minus 80000000 ∷ []) × Refuses 8 1 (reply_to t)

-- 8. "Ten directions, a = 1,000, q = 10, w = 5: K = -1, R = -50,000,000, accepted."
abbrev pub Eight : Type 0
Eight =
    let t = table 10 10 (all 10 1000) (pos 5 ∷ []) in
    (K_in t ≡ minus 1 ∷ []) × (R_in t ≡ minus 50000000 ∷ []) × (reply_to t ≡ Ok tt)

-- 9. "Position 1: object 1 at 0 and 648,004,000; object 2 at 144,010,000 and 792,016,000. Object 2's direction is 144,011,000, P = 1."
abbrev pub Nine : Type 0
Nine = Means (sighted 0 648004000 144010000 792016000) 144011000

-- 10. "One pair with g = 2C - 1: direction 0. g = 3: direction 2."
abbrev pub Ten : Type 0
Ten =
    ((g_of (sighted 0 648000000 1295999999 648000000) ≡ pos 2 *ℤ C -ℤ pos 1) × Means (sighted 0 648000000 1295999999 648000000) 0)
    × ((g_of (sighted 0 648000000 1 648000002) ≡ pos 3) × Means (sighted 0 648000000 1 648000002) 2)

-- a refusal's number and place, from the refusal
refuses : {why : Refusal} {reply : Reply} → reply ≡ Err why → Refuses (number_of why) (place_of why) reply
refuses {why} is = subst (Refuses (number_of why) (place_of why)) (sym is) (refl, refl)

pub ten_figures : One × Two × Three × Four × Five × Six × Seven × Eight × Nine × Ten
ten_figures = (
  figure_1,
  figure_2,
  figure_3,
  (λ w w' small small'. refuses (repeated w w' small small')),
  (figure_5.0, figure_5.1, refuses figure_5.2),
  figure_6,
  (figure_7.1, figure_7.2, refuses figure_7.0),
  (figure_8.1, figure_8.2, figure_8.0),
  figure_9,
  (figure_10_whole, figure_10_three),
)
