-- Holds whose names are kept once, as names are added and holds change.
use Rattle.std.proofs.Common.{◌≡◌, ℕ, zero, suc, ◌<◌, List, [], ◌∷◌, ◌++◌, get_or, length, set, refl, sym, ap, ap₂, ◌∙◌, subst, arith, length-append}
use Rattle.std.proofs.lemmas.List.{length-set}
use Rattle.std.proofs.lemmas.Option.{same_Some}
use Rattle.std.specs.Prelude.{Some, slice_get, unwrap_or}
use Rattle.std.specs.Option.{option_map}
use Rattle.iss_model.specs.declared.txn.Txn.{Txn}
use Rattle.iss_index.specs.Grown.{IsGrown}
use Rattle.iss_index.proofs.Grown.{slot_stays, some_stays}
use Rattle.iss_hold.specs.declared.hold.Hold.{Hold}
use Rattle.iss_hold.specs.declared.list.HoldRow.{HoldRow}
use Rattle.iss_hold.specs.Indexes.{names}
use Rattle.iss_hold.specs.Named.{hold_in, holds_in, IsNamed, AreNamed, AreKept}

-- ---- names that have grown leave holds as they are

hold_stays : {ns ms : List (List ℕ)} (token : List ℕ) (row : HoldRow) → IsGrown ns ms → IsNamed ns row → hold_in ms token row ≡ hold_in ns token row
hold_stays token row g n =
    let card = slot_stays row.card g n.card in
    let user = slot_stays row.user g n.user in
    let product = slot_stays row.product g n.product in
    let mid = slot_stays row.mid g n.mid in
    λ i. record {
      txn = record {
        token = token;
        card = unwrap_or (card i) [];
        user = unwrap_or (user i) [];
        product = unwrap_or (product i) [];
        currency = row.currency;
        funding = row.funding;
        mcc = row.mcc;
        mid = unwrap_or (mid i) [];
        origin = row.origin;
        at = row.at;
        expires = row.expires;
      };
      live = row.live;
      g = row.g;
      p = row.p;
      s = row.s;
    }

row_stays : {ns ms : List (List ℕ)} (row : HoldRow) → IsGrown ns ms → IsNamed ns row → IsNamed ms row
row_stays row g n =
    record { card = some_stays row.card g n.card; user = some_stays row.user g n.user; product = some_stays row.product g n.product; mid = some_stays row.mid g n.mid }

pub holds_stay : {ns ms : List (List ℕ)} (ts : List (List ℕ)) (rows : List HoldRow) → IsGrown ns ms → AreNamed ns rows → holds_in ms ts rows ≡ holds_in ns ts rows
holds_stay [] rows g a = refl
holds_stay (t ∷ ts) [] g a = refl
holds_stay {ns} {ms} (t ∷ ts) (row ∷ rows) g a =
    let one = hold_stays t row g a.0 in
    let rest = holds_stay ts rows g a.1 in
    λ i. one i ∷ rest i

pub all_stay : {ns ms : List (List ℕ)} (rows : List HoldRow) → IsGrown ns ms → AreNamed ns rows → AreNamed ms rows
all_stay [] g a = tt
all_stay (row ∷ rows) g a = (row_stays row g a.0, all_stay rows g a.1)

pub named_push : (ns : List (List ℕ)) (rows : List HoldRow) (row : HoldRow) → AreNamed ns rows → IsNamed ns row → AreNamed ns (rows ++ row ∷ [])
named_push ns [] row a n = (n, tt)
named_push ns (first ∷ rows) row a n = (a.0, named_push ns rows row a.1 n)

-- one more hold, over names that have grown
pushed : (ns ts : List (List ℕ)) (rows : List HoldRow) (token : List ℕ) (row : HoldRow) → length ts ≡ length rows
    → holds_in ns (ts ++ token ∷ []) (rows ++ row ∷ []) ≡ holds_in ns ts rows ++ hold_in ns token row ∷ []
pushed ns [] [] token row even = refl
pushed ns [] (r ∷ rows) token row even = absurd (omega (arith, even))
pushed ns (t ∷ ts) [] token row even = absurd (omega (arith, even))
pushed ns (t ∷ ts) (r ∷ rows) token row even = ap (λ (hs : List Hold). hold_in ns t r ∷ hs) (pushed ns ts rows token row (omega (arith, even)))

pub held_push : (ns ms ts us : List (List ℕ)) (rows more : List HoldRow) (token : List ℕ) (row : HoldRow) (h : Hold) → IsGrown ns ms → AreKept ns ts rows
    → hold_in ms token row ≡ h → us ≡ ts ++ token ∷ [] → more ≡ rows ++ row ∷ [] → holds_in ms us more ≡ holds_in ns ts rows ++ h ∷ []
held_push ns ms ts us rows more token row h g a e u f =
    ap₂ (λ (xs : List (List ℕ)) (rs : List HoldRow). holds_in ms xs rs) u f
    ∙ pushed ms ts rows token row a.even
    ∙ (λ i. holds_stay ts rows g a.named i ++ e i ∷ [])

pub kept_push : {ns ms ts us : List (List ℕ)} {rows more : List HoldRow} (token : List ℕ) (row : HoldRow) → IsGrown ns ms → AreKept ns ts rows
    → IsNamed ms row → us ≡ ts ++ token ∷ [] → more ≡ rows ++ row ∷ [] → AreKept ms us more
kept_push {ns} {ms} {ts} {us} {rows} {more} token row g a n u f =
    record {
      named = subst (λ (rs : List HoldRow). AreNamed ms rs) (sym f) (named_push ms rows row (all_stay rows g a.named) n);
      even = omega (arith, a.even, ap (λ (xs : List (List ℕ)). length xs) u, ap (λ (rs : List HoldRow). length rs) f, length-append ts (token ∷ []), length-append rows (row ∷ []));
    }

-- the names alone have grown
pub kept_grown : {ns ms ts us : List (List ℕ)} {rows same : List HoldRow} → IsGrown ns ms → AreKept ns ts rows → us ≡ ts → same ≡ rows → AreKept ms us same
kept_grown {ns} {ms} {ts} {us} {rows} {same} g a u f =
    record {
      named = subst (λ (rs : List HoldRow). AreNamed ms rs) (sym f) (all_stay rows g a.named);
      even = ap (λ (xs : List (List ℕ)). length xs) u ∙ a.even ∙ ap (λ (rs : List HoldRow). length rs) (sym f);
    }

pub held_grown : {ns ms ts us : List (List ℕ)} {rows same : List HoldRow} → IsGrown ns ms → AreKept ns ts rows → us ≡ ts → same ≡ rows
    → holds_in ms us same ≡ holds_in ns ts rows
held_grown {ns} {ms} {ts} {us} {rows} {same} g a u f =
    ap₂ (λ (xs : List (List ℕ)) (rs : List HoldRow). holds_in ms xs rs) u f ∙ holds_stay ts rows g a.named

-- ---- how many there are, and their tokens

pub held_length : (ns ts : List (List ℕ)) (rows : List HoldRow) → length ts ≡ length rows → length (holds_in ns ts rows) ≡ length rows
held_length ns [] [] even = refl
held_length ns [] (r ∷ rows) even = absurd (omega (arith, even))
held_length ns (t ∷ ts) [] even = absurd (omega (arith, even))
held_length ns (t ∷ ts) (r ∷ rows) even = ap (λ (n : ℕ). suc n) (held_length ns ts rows (omega (arith, even)))

pub held_within : {ns ts : List (List ℕ)} {rows : List HoldRow} {hs : List Hold} {place : ℕ} → AreKept ns ts rows → holds_in ns ts rows ≡ hs → place < length hs
    → place < length rows
held_within {ns} {ts} {rows} {hs} {place} a view within =
    subst (λ (n : ℕ). place < n) (ap (λ (xs : List Hold). length xs) (sym view) ∙ held_length ns ts rows a.even) within

pub stands_within : (hs : List Hold) (i : ℕ) {t : Txn} → option_map (λ k. k.txn) (slice_get hs i) ≡ Some t → i < length hs
stands_within [] i e = cc
stands_within (h ∷ hs) zero e = omega arith
stands_within (h ∷ hs) (suc i) e = let below = stands_within hs i e in omega (arith, below)

pub names_held : (ns ts : List (List ℕ)) (rows : List HoldRow) → length ts ≡ length rows → names (holds_in ns ts rows) ≡ ts
names_held ns [] [] even = refl
names_held ns [] (r ∷ rows) even = refl
names_held ns (t ∷ ts) [] even = absurd (omega (arith, even))
names_held ns (t ∷ ts) (r ∷ rows) even = ap (λ (xs : List (List ℕ)). t ∷ xs) (names_held ns ts rows (omega (arith, even)))

-- ---- what stands at a place

pub row_named : (ns : List (List ℕ)) (rows : List HoldRow) (i : ℕ) (row : HoldRow) → AreNamed ns rows → slice_get rows i ≡ Some row → IsNamed ns row
row_named ns [] i row a e = cc
row_named ns (first ∷ rows) zero row a e = let same : first ≡ row = cc in subst (λ (r : HoldRow). IsNamed ns r) same a.0
row_named ns (first ∷ rows) (suc i) row a e = row_named ns rows i row a.1 e

pub row_there : (ns ts : List (List ℕ)) (rows : List HoldRow) (i : ℕ) (row : HoldRow) {t : Txn} → option_map (λ k. k.txn) (slice_get (holds_in ns ts rows) i) ≡ Some t → row ≡ get_or rows i row
    → slice_get rows i ≡ Some row
row_there ns [] rows i row e g = cc
row_there ns (t ∷ ts) [] i row e g = cc
row_there ns (t ∷ ts) (first ∷ rows) zero row e g = ap (λ (r : HoldRow). Some r) (sym g)
row_there ns (t ∷ ts) (first ∷ rows) (suc i) row e g = row_there ns ts rows i row e g

pub hold_at : (ns ts : List (List ℕ)) (rows : List HoldRow) (i : ℕ) (token : List ℕ) (row : HoldRow) → slice_get ts i ≡ Some token → slice_get rows i ≡ Some row
    → slice_get (holds_in ns ts rows) i ≡ Some (hold_in ns token row)
hold_at ns [] rows i token row e f = cc
hold_at ns (t ∷ ts) [] i token row e f = cc
hold_at ns (t ∷ ts) (r ∷ rows) zero token row e f = ap₂ (λ (x : List ℕ) (y : HoldRow). Some (hold_in ns x y)) (same_Some t token e) (same_Some r row f)
hold_at ns (t ∷ ts) (r ∷ rows) (suc i) token row e f = hold_at ns ts rows i token row e f

pub named_set : (ns : List (List ℕ)) (rows : List HoldRow) (i : ℕ) (row : HoldRow) → AreNamed ns rows → IsNamed ns row → AreNamed ns (set rows i row)
named_set ns [] i row a n = tt
named_set ns (first ∷ rows) zero row a n = (n, a.1)
named_set ns (first ∷ rows) (suc i) row a n = (a.0, named_set ns rows i row a.1 n)

-- a row with what another hold of its transaction holds
abbrev pub with_parts_of : HoldRow → Hold → HoldRow
with_parts_of row h = record row { live = h.live; g = h.g; p = h.p; s = h.s }

pub parts_named : {ns : List (List ℕ)} (row : HoldRow) (h : Hold) → IsNamed ns row → IsNamed ns (with_parts_of row h)
parts_named row h n = record { card = n.card; user = n.user; product = n.product; mid = n.mid }

its_txn : {t u : Txn} → Some t ≡ Some u → t ≡ u
its_txn e = cc

-- a hold takes the place of another of its transaction
pub held_set : (ns ts : List (List ℕ)) (rows : List HoldRow) (i : ℕ) (row : HoldRow) (h : Hold) → slice_get rows i ≡ Some row
    → option_map (λ k. k.txn) (slice_get (holds_in ns ts rows) i) ≡ Some h.txn → holds_in ns ts (set rows i (with_parts_of row h)) ≡ set (holds_in ns ts rows) i h
held_set ns [] rows i row h at e = cc
held_set ns (t ∷ ts) [] i row h at e = cc
held_set ns (t ∷ ts) (r ∷ rows) zero row h at e =
    let same : (hold_in ns t row).txn ≡ h.txn = ap (λ (x : HoldRow). (hold_in ns t x).txn) (sym (same_Some r row at)) ∙ its_txn e in
    λ j. record { txn = same j; live = h.live; g = h.g; p = h.p; s = h.s } ∷ holds_in ns ts rows
held_set ns (t ∷ ts) (r ∷ rows) (suc i) row h at e = ap (λ (hs : List Hold). hold_in ns t r ∷ hs) (held_set ns ts rows i row h at e)

pub kept_set : {ns ts : List (List ℕ)} {rows : List HoldRow} (i : ℕ) (row : HoldRow) → AreKept ns ts rows → IsNamed ns row → AreKept ns ts (set rows i row)
kept_set {ns} {ts} {rows} i row a n = record { named = named_set ns rows i row a.named n; even = a.even ∙ sym (length-set rows i row) }
