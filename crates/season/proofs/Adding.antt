-- Reports of archives, put together and looked through: what an office does with them. Assumes nothing.
--   Closed                            an archive that ends with a full stop line
--   Sealed, sealed                    the parts of such an archive, and of another after it
--   shares_joined                     its shares, and then those of the other
--   joined_report                     where both hold at most 100,000 nets together, the report of the two joined is the two reports added
--   All, shares_all                   every net of an archive has one share
--   report_total                      each total is the one defined from the list of nets
--   report_most                       no total is above what 100,000 nets can have
--   nets_reported, counts_add_up      NETS is the number of nets reported, and ACCEPTED and the nine counts add up to it
--   printed_and_added                 the reports of two archives, printed and then added by `add_reports`, are the printed report of the two joined
use mathlib.Core.Path.{◌≡◌, refl, sym, ◌∙◌, ap, ap₂, subst}
use mathlib.Core.Bool.{Bool, true, false, cond}
use mathlib.Core.List.{List, [], ◌∷◌, ◌++◌, map, append_assoc, append-nil}
use Prim.Native.Nat.{ℕ, zero, suc, ◌+◌, ◌*◌, ◌≤◌, ◌<◌}
use native.Mathlib.Omega.{arith}
use borrow.Author.Tests.{ne_eqb, eqb-true, eqb-false, le-ltb}
use lib.Dec.{eqb}
use lib.ListN.{length, get_or, take, length-append}
use lib.Seq.{take_all}
use Rattle.text.specs.Fields.{letter_of}
use Rattle.text.specs.Lines.{LF}
use Rattle.text.specs.Parts.{bytes_before, onto, parted}
use Rattle.text.proofs.Parting.{onto_none}
use Rattle.totals.specs.Totals.{largest_at, total, sum_of, report_of}
use Rattle.totals.specs.Promise.{most_nets}
use Rattle.totals.specs.Text.{report_text}
use Rattle.totals.specs.Adding.{sum_text}
use Rattle.totals.proofs.Totalling.{joined_sum, joined_most, sum_at_lem, report_length, report_at, report_joined}
use Rattle.totals.proofs.ReadingReports.{counts_in, Report, sums_back}
use Rattle.season.specs.Archive.{STOP, stops, parts_in, parts_of}
use Rattle.season.specs.Share.{sum_to, share_of, left_share}
use Rattle.season.specs.Season.{left_shares, shares_in, shares_of, season_reply, season_report}
use Rattle.season.specs.Inner.{IsShare}
use Rattle.season.proofs.Parting.{onto_onto, parts_some, more_than_last}
use Rattle.season.proofs.Sharing.{sum_ext, share_is, left_is}
use Rattle.season.proofs.Joining.{unbroken_more, line_stop, line_other}
use Rattle.std.proofs.Math.Nat.{min-le_left, min-le_right}
use Rattle.std.proofs.lemmas.List.{length-take}
use Rattle.std.specs.Prelude.{Ok}

-- ---- an archive that ends with a full stop line: it is one, or one stands behind an LF
pub data Closed : (archive : List ℕ) → Type 0 where
  alone : Closed (STOP ∷ LF ∷ [])
  behind : (before : List ℕ) → Closed (before ++ (LF ∷ STOP ∷ LF ∷ []))

-- ---- bytes, cut after their last full stop line: parts that are closed, whole lines after them, and a line so far
record Cut (bytes : List ℕ) : Type 0 where
  parts : List (List ℕ)
  lines : List ℕ
  line : List ℕ
  unbroken : length line ≤ bytes_before LF line
  splits : (rest : List ℕ) → parts_of (bytes ++ rest) ≡ parts ++ onto lines (parts_of (line ++ rest))

-- one byte more
module _ (bytes : List ℕ) (byte : ℕ) (c : Cut bytes) where
  shift : (rest : List ℕ) → parts_of ((bytes ++ (byte ∷ [])) ++ rest) ≡ c.parts ++ onto c.lines (parts_of (c.line ++ (byte ∷ rest)))
  shift rest = ap parts_of (append_assoc bytes (byte ∷ []) rest) ∙ c.splits (byte ∷ rest)

  cut_LF : byte ≡ LF → (b : Bool) → stops c.line ≡ b → Cut (bytes ++ (byte ∷ []))
  unfolding onto
  cut_LF e true f = record {
    parts = c.parts ++ (c.lines ∷ []);
    lines = [];
    line = [];
    unbroken = omega arith;
    splits = λ rest.
        shift rest ∙ ap (λ (b : ℕ). c.parts ++ onto c.lines (parts_of (c.line ++ (b ∷ rest)))) e
        ∙ ap (λ (x : List (List ℕ)). c.parts ++ onto c.lines x) (line_stop c.line rest c.unbroken f)
        ∙ ap (λ (x : List ℕ). c.parts ++ (x ∷ parts_of rest)) (append-nil c.lines)
        ∙ sym (append_assoc c.parts (c.lines ∷ []) (onto [] (parts_of rest)) ∙ ap (λ (x : List (List ℕ)). c.parts ++ (c.lines ∷ x)) (onto_none (parts_of rest)));
  }
  cut_LF e false f = record {
    parts = c.parts;
    lines = c.lines ++ (c.line ++ (LF ∷ []));
    line = [];
    unbroken = omega arith;
    splits = λ rest.
        shift rest ∙ ap (λ (b : ℕ). c.parts ++ onto c.lines (parts_of (c.line ++ (b ∷ rest)))) e
        ∙ ap (λ (x : List (List ℕ)). c.parts ++ onto c.lines x) (line_other c.line rest c.unbroken f)
        ∙ ap (λ (x : List (List ℕ)). c.parts ++ x) (onto_onto c.lines (c.line ++ (LF ∷ [])) (parts_of rest));
  }

  cut_more : (byte ≡ LF → ⊥) → Cut (bytes ++ (byte ∷ []))
  cut_more n = record {
    parts = c.parts;
    lines = c.lines;
    line = c.line ++ (byte ∷ []);
    unbroken = unbroken_more c.line byte n c.unbroken;
    splits = λ rest. shift rest ∙ ap (λ (x : List ℕ). c.parts ++ onto c.lines (parts_of x)) (sym (append_assoc c.line (byte ∷ []) rest));
  }

  cut_byte : (b : Bool) → eqb byte LF ≡ b → Cut (bytes ++ (byte ∷ []))
  cut_byte true e = cut_LF (eqb-true byte LF e) (stops c.line) refl
  cut_byte false e = cut_more (eqb-false byte LF e)

cut_none : Cut []
cut_none = record { parts = []; lines = []; line = []; unbroken = omega arith; splits = λ rest. sym (onto_none (parts_of rest)) }

cut_on : (before bytes : List ℕ) → Cut before → Cut (before ++ bytes)
cut_on before [] c = subst Cut (sym (append-nil before)) c
cut_on before (byte ∷ bytes) c = subst Cut (append_assoc before (byte ∷ []) bytes) (cut_on (before ++ (byte ∷ [])) bytes (cut_byte before byte c (eqb byte LF) refl))

cut : (bytes : List ℕ) → Cut bytes
cut bytes = cut_on [] bytes cut_none

-- ---- the parts of an archive that ends with a full stop line
pub record Sealed (archive : List ℕ) : Type 0 where
  pub nets : List (List ℕ)
  pub splits : (rest : List ℕ) → parts_of (archive ++ rest) ≡ nets ++ parts_of rest

stop_first : (rest : List ℕ) → parts_of (STOP ∷ LF ∷ rest) ≡ [] ∷ parts_of rest
unfolding bytes_before stops letter_of
stop_first rest = line_stop (STOP ∷ []) rest (omega arith) refl

-- a full stop line after bytes that end with an LF
seal : (bytes : List ℕ) (c : Cut bytes) → (b : Bool) → stops c.line ≡ b → Sealed (bytes ++ (LF ∷ STOP ∷ LF ∷ []))
unfolding onto
seal bytes c true f = record {
  nets = c.parts ++ (c.lines ∷ [] ∷ []);
  splits = λ rest.
      ap parts_of (append_assoc bytes (LF ∷ STOP ∷ LF ∷ []) rest) ∙ c.splits (LF ∷ STOP ∷ LF ∷ rest)
      ∙ ap (λ (x : List (List ℕ)). c.parts ++ onto c.lines x) (line_stop c.line (STOP ∷ LF ∷ rest) c.unbroken f)
      ∙ ap₂ (λ (x : List ℕ) (y : List (List ℕ)). c.parts ++ (x ∷ y)) (append-nil c.lines) (stop_first rest)
      ∙ sym (append_assoc c.parts (c.lines ∷ [] ∷ []) (parts_of rest));
}
seal bytes c false f = record {
  nets = c.parts ++ ((c.lines ++ (c.line ++ (LF ∷ []))) ∷ []);
  splits = λ rest.
      ap parts_of (append_assoc bytes (LF ∷ STOP ∷ LF ∷ []) rest) ∙ c.splits (LF ∷ STOP ∷ LF ∷ rest)
      ∙ ap (λ (x : List (List ℕ)). c.parts ++ onto c.lines x) (line_other c.line (STOP ∷ LF ∷ rest) c.unbroken f)
      ∙ ap (λ (x : List (List ℕ)). c.parts ++ x) (onto_onto c.lines (c.line ++ (LF ∷ [])) (parts_of (STOP ∷ LF ∷ rest)))
      ∙ ap (λ (x : List (List ℕ)). c.parts ++ onto (c.lines ++ (c.line ++ (LF ∷ []))) x) (stop_first rest)
      ∙ ap (λ (x : List ℕ). c.parts ++ (x ∷ parts_of rest)) (append-nil (c.lines ++ (c.line ++ (LF ∷ []))))
      ∙ sym (append_assoc c.parts ((c.lines ++ (c.line ++ (LF ∷ []))) ∷ []) (parts_of rest));
}

pub sealed : {archive : List ℕ} → Closed archive → Sealed archive
sealed alone = record { nets = [] ∷ []; splits = stop_first }
sealed (behind before) = let c = cut before in seal before c (stops c.line) refl

-- ---- its shares
nets_shares : (nets : List (List ℕ)) (rest : List ℕ) → shares_in (nets ++ parts_of rest) ≡ map share_of nets ++ shares_in (parts_of rest)
unfolding shares_in
nets_shares [] rest = refl
nets_shares (net ∷ nets) rest =
    more_than_last (nets ++ parts_of rest) (left_shares net) (share_of net ∷ shares_in (nets ++ parts_of rest)) (omega (arith, length-append nets (parts_of rest), parts_some rest))
    ∙ ap (λ (x : List (List ℕ)). share_of net ∷ x) (nets_shares nets rest)

-- an empty archive has no nets
no_shares : shares_in (parts_of []) ≡ []
unfolding parts_of parts_in parted shares_in left_shares
no_shares = refl

pub shares_joined : {first : List ℕ} → Closed first → (second : List ℕ) → shares_of (first ++ second) ≡ shares_of first ++ shares_of second
unfolding shares_of
shares_joined {first} c second =
    let s = sealed c in
    let split : (rest : List ℕ) → shares_in (parts_of (first ++ rest)) ≡ map share_of s.nets ++ shares_in (parts_of rest) = λ rest. ap shares_in (s.splits rest) ∙ nets_shares s.nets rest in
    let own : shares_in (parts_of first) ≡ map share_of s.nets = ap (λ (x : List ℕ). shares_in (parts_of x)) (sym (append-nil first)) ∙ split [] ∙ ap (λ (x : List (List ℕ)). map share_of s.nets ++ x) no_shares ∙ append-nil (map share_of s.nets) in
    split second ∙ ap (λ (x : List (List ℕ)). x ++ shares_in (parts_of second)) (sym own)

pub joined_report : {first : List ℕ} → Closed first → (second : List ℕ) → length (shares_of first) + length (shares_of second) ≤ most_nets
    → (season_reply (shares_of (first ++ second)) ≡ Ok tt) × (season_report (shares_of (first ++ second)) ≡ sum_of (season_report (shares_of first)) (season_report (shares_of second)))
unfolding season_reply season_report
joined_report {first} c second l =
    let e = shares_joined c second in let n = length-append (shares_of first) (shares_of second) in
    let whole : (shares : List (List ℕ)) → length shares ≤ most_nets → take most_nets shares ≡ shares = λ shares h. take_all most_nets shares h in (
      rw e (rw (le-ltb most_nets (length (shares_of first ++ shares_of second)) (omega (arith, n)))),
      ap (λ (x : List (List ℕ)). report_of (take most_nets x)) e
          ∙ ap report_of (whole (shares_of first ++ shares_of second) (omega (arith, n)))
          ∙ report_joined (shares_of first) (shares_of second)
          ∙ ap₂ (λ (x y : List (List ℕ)). sum_of (report_of x) (report_of y)) (sym (whole (shares_of first) (omega arith))) (sym (whole (shares_of second) (omega arith))),
    )

-- ---- every net has one share
abbrev pub All : (shares : List (List ℕ)) → Type 0
All [] = Unit {0}
All (share ∷ shares) = IsShare share × All shares

left_all : (b : Bool) → All (cond b [] (left_share ∷ []))
left_all true = tt
left_all false = (left_is, tt)

pub shares_all : (parts : List (List ℕ)) → All (shares_in parts)
unfolding shares_in left_shares
shares_all [] = tt
shares_all (part ∷ []) = left_all (eqb (length part) 0)
shares_all (part ∷ (next ∷ parts)) = (share_is part, shares_all (next ∷ parts))

all_taken : (n : ℕ) (shares : List (List ℕ)) → All shares → All (take n shares)
all_taken zero shares a = tt
all_taken (suc n) [] a = tt
all_taken (suc n) (share ∷ shares) a = (a.0, all_taken n shares a.1)

-- ---- sums of counts
sum_add : (n : ℕ) (f g : ℕ → ℕ) → sum_to n (λ k. f k + g k) ≡ sum_to n f + sum_to n g
unfolding sum_to
sum_add zero f g = refl
sum_add (suc n) f g = omega (arith, sum_add n f g)

no_sum : sum_to 10 (λ k. 0) ≡ 0
unfolding sum_to
no_sum = refl

total_none : (i : ℕ) → total i [] ≡ 0
unfolding total
total_none i = refl

-- the places before the misclosures hold sums
first_sums : (i : ℕ) → i < 12 → largest_at i ≡ false
unfolding largest_at
first_sums i l = rw (ne_eqb i 12 (λ e. omega (arith, e)), ne_eqb i 14 (λ e. omega (arith, e)))

total_more : (i : ℕ) (share : List ℕ) (shares : List (List ℕ)) → i < 12 → total i (share ∷ shares) ≡ get_or share i 0 + total i shares
unfolding total
total_more i share shares l = joined_sum i (get_or share i 0) (total i shares) (first_sums i l)

nets_counted : (shares : List (List ℕ)) → All shares → total 0 shares ≡ length shares
nets_counted [] a = total_none 0
nets_counted (share ∷ shares) a = total_more 0 share shares (omega arith) ∙ omega (arith, a.0.net, nets_counted shares a.1)

counts : (shares : List (List ℕ)) → All shares → sum_to 10 (λ k. total (suc k) shares) ≡ length shares
counts [] a = sum_ext 10 (λ k. total (suc k) []) (λ k. 0) (λ k l. total_none (suc k)) ∙ no_sum
counts (share ∷ shares) a =
    sum_ext 10 (λ k. total (suc k) (share ∷ shares)) (λ k. get_or share (suc k) 0 + total (suc k) shares) (λ k l. total_more (suc k) share shares (omega arith))
    ∙ sum_add 10 (λ k. get_or share (suc k) 0) (λ k. total (suc k) shares)
    ∙ omega (arith, a.0.once, counts shares a.1)

-- ---- of every report
module _ (archive : List ℕ) where
  abbrev reported : List (List ℕ)
  reported = take most_nets (shares_of archive)

  pub report_total : (i : ℕ) → i < 16 → get_or (season_report (shares_of archive)) i 0 ≡ total i reported
  unfolding season_report
  report_total i l = report_at reported i l

  all_reported : All reported
  unfolding shares_of
  all_reported = all_taken most_nets (shares_in (parts_of archive)) (shares_all (parts_of archive))

  pub nets_reported : get_or (season_report (shares_of archive)) 0 0 ≡ length reported
  nets_reported = report_total 0 (omega arith) ∙ nets_counted reported all_reported

  -- the counts add up to the number of nets: ACCEPTED and COUNT 1 to 9 stand at the places 1 to 10
  pub counts_add_up : sum_to 10 (λ k. get_or (season_report (shares_of archive)) (suc k) 0) ≡ get_or (season_report (shares_of archive)) 0 0
  counts_add_up =
      sum_ext 10 (λ k. get_or (season_report (shares_of archive)) (suc k) 0) (λ k. total (suc k) reported) (λ k l. report_total (suc k) (omega arith))
      ∙ counts reported all_reported ∙ sym nets_reported

-- ---- on many computers: the reports of two archives, printed and then added, are the printed report of the two joined
total_most : (i : ℕ) (shares : List (List ℕ)) → All shares → total i shares ≤ 24000000 * length shares
unfolding total
total_most i [] a = omega arith
total_most i (share ∷ shares) a = omega (arith, joined_most i (get_or share i 0) (total i shares), a.0.small i, total_most i shares a.1)

counts_same : (x : List ℕ) (n : ℕ) → counts_in x n ≡ sum_to n (λ k. get_or x (suc k) 0)
unfolding counts_in sum_to
counts_same x zero = refl
counts_same x (suc n) = ap (λ (c : ℕ). c + get_or x (suc n) 0) (counts_same x n)

most : (x n : ℕ) → x ≤ 24000000 * n → n ≤ 100000 → x ≤ 2400000000000
most x n l h = omega arith

module _ (archive : List ℕ) where
  few : length (reported archive) ≤ most_nets
  few = rw (length-take most_nets (shares_of archive)) (min-le_left most_nets (length (shares_of archive)))

  fewer : length (reported archive) ≤ length (shares_of archive)
  fewer = rw (length-take most_nets (shares_of archive)) (min-le_right most_nets (length (shares_of archive)))

  pub report_most : (i : ℕ) → i < 16 → get_or (season_report (shares_of archive)) i 0 ≤ 2400000000000
  report_most i l =
      most (get_or (season_report (shares_of archive)) i 0) (length (reported archive)) (subst (λ (n : ℕ). n ≤ 24000000 * length (reported archive)) (sym (report_total archive i l)) (total_most i (reported archive) (all_reported archive))) few

  is_report : Report (season_report (shares_of archive))
  unfolding season_report
  is_report = record { sixteen = report_length (reported archive); counted = counts_same (season_report (shares_of archive)) 10 ∙ counts_add_up archive }

nets_most : (x y m n a b : ℕ) → x ≡ m → y ≡ n → m ≤ a → n ≤ b → a + b ≤ most_nets → x + y ≤ most_nets
nets_most x y m n a b e f h k l = omega arith

pub printed_and_added : {first : List ℕ} → Closed first → (second : List ℕ) → length (shares_of first) + length (shares_of second) ≤ most_nets
    → sum_text (report_text (season_report (shares_of first)) false ++ report_text (season_report (shares_of second)) false) ≡ report_text (season_report (shares_of (first ++ second))) false
printed_and_added {first} c second l =
    let x = season_report (shares_of first) in let y = season_report (shares_of second) in
    sums_back x y (is_report first) (is_report second)
    (nets_most (get_or x 0 0) (get_or y 0 0) (length (reported first)) (length (reported second)) _ _ (nets_reported first) (nets_reported second) (fewer first) (fewer second) l)
    (λ i h. omega (arith, sum_at_lem x y i h, joined_most i (get_or x i 0) (get_or y i 0), report_most first i h, report_most second i h))
    ∙ ap (λ (t : List ℕ). report_text t false) (sym (joined_report c second l).1)
