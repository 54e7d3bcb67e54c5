-- The parts of the input that were read, one after the other.
use Rattle.std.proofs.Common.{◌≡◌, inl, inr, ℕ, ◌+◌, ◌-◌, ◌≤◌, Bool, true, false, cond, nat_eq, List, [], ◌∷◌, ◌++◌, length, take, refl, sym, ap, subst, ◌∙◌, append-nil, append_assoc, arith, length-append}
use Rattle.std.proofs.Math.Seq.{take-append-add}
use Rattle.iss_edge.specs.World.{World}
use Rattle.iss_model.specs.declared.limits.TheConstants.{MOST_INPUT}
use Rattle.iss_top.specs.declared.stop.Stop.{Stop}
use Rattle.iss_top.specs.declared.stop.Stop.TheVariants as stop
use Rattle.iss_top.specs.Lines.{has_line_feed, onto_first, line_parts, all_but_last}
use Rattle.iss_top.specs.Reader.{ReaderNow, TakesIn, ReadsPart, ReadsNoPart, ReadsOn, Ends, fresh_reader}
use Rattle.iss_top.specs.Progress.{HasRead}
use Rattle.iss_top.proofs.Takes.{neither_first, neither_second, takes_then, takes_none, takes_on}

-- ---- the parts of bytes

-- bytes without a line feed are one part
pub part_alone : (part : List ℕ) → has_line_feed part ≡ false → line_parts part ≡ part ∷ []
part_alone [] e = refl
part_alone (b ∷ bs) e =
    ap (λ (t : Bool). cond t ([] ∷ line_parts bs) (onto_first (b ∷ []) (line_parts bs))) (neither_first (nat_eq b 10) (has_line_feed bs) e)
    ∙ ap (onto_first (b ∷ [])) (part_alone bs (neither_second (nat_eq b 10) (has_line_feed bs) e))

-- with a line feed after them they are the first part
pub part_first : (part rest : List ℕ) → has_line_feed part ≡ false → line_parts (part ++ 10 ∷ rest) ≡ part ∷ line_parts rest
part_first [] rest e = refl
part_first (b ∷ bs) rest e =
    let more = bs ++ 10 ∷ rest in
    ap (λ (t : Bool). cond t ([] ∷ line_parts more) (onto_first (b ∷ []) (line_parts more))) (neither_first (nat_eq b 10) (has_line_feed bs) e)
    ∙ ap (onto_first (b ∷ [])) (part_first bs rest (neither_second (nat_eq b 10) (has_line_feed bs) e))

pub all_but_one : (parts : List (List ℕ)) (last : List ℕ) → all_but_last (parts ++ last ∷ []) ≡ parts
all_but_one [] last = refl
all_but_one (p ∷ []) last = refl
all_but_one (p ∷ q ∷ ps) last = ap (λ (l : List (List ℕ)). p ∷ l) (all_but_one (q ∷ ps) last)

never : true ≡ false → ⊥
never e = cc

-- ---- steps

-- nothing was read
pub has_read_begins : (now : ReaderNow) (a : World) → now ≡ fresh_reader → HasRead [] now a a
has_read_begins now a fresh =
    subst (λ (n : ReaderNow). HasRead [] n a a) (sym fresh)
    (record { took = []; takes = takes_none a a refl; count = refl; cut = λ going rest. refl; all = λ ended. absurd (never (sym ended)) })

-- what takes nothing in
pub has_read_on : (parts : List (List ℕ)) (now : ReaderNow) (a b c : World) → HasRead parts now a b → c.left ≡ b.left → HasRead parts now a c
has_read_on parts now a b c h left =
    record {
      took = h.took;
      takes = takes_on h.took a b c h.takes left;
      count = h.count;
      cut = h.cut;
      all = λ ended. ((h.all ended).0, ap (λ (l : ℕ → List ℕ). l 0) left ∙ (h.all ended).1);
    }

cut_of : (bytes part : List ℕ) (now : ReaderNow) (b : World) → Ends bytes part now b → now.ended ≡ false → bytes ≡ part ++ 10 ∷ now.unread
cut_of bytes part now b (inl e) going = e.1
cut_of bytes part now b (inr e) going = absurd (never (sym e.0 ∙ going))

all_of : (bytes part : List ℕ) (now : ReaderNow) (b : World) → Ends bytes part now b → now.ended ≡ true → (bytes ≡ part) × (b.left 0 ≡ [])
all_of bytes part now b (inl e) ended = absurd (never (sym ended ∙ e.0))
all_of bytes part now b (inr e) ended = (e.1, e.2)

-- if the next part ended, the rest begins after its line feed
next_cut : (unread took part unread' rest : List ℕ) (parts : List (List ℕ)) → has_line_feed part ≡ false → unread ++ took ≡ part ++ 10 ∷ unread'
    → parts ++ line_parts (unread ++ (took ++ rest)) ≡ (parts ++ part ∷ []) ++ line_parts (unread' ++ rest)
next_cut unread took part unread' rest parts one_line cut =
    let all : unread ++ (took ++ rest) ≡ part ++ 10 ∷ (unread' ++ rest) =
    sym (append_assoc unread took rest) ∙ ap (λ (l : List ℕ). l ++ rest) cut ∙ append_assoc part (10 ∷ unread') rest in
    ap (λ (l : List ℕ). parts ++ line_parts l) all
    ∙ ap (λ (l : List (List ℕ)). parts ++ l) (part_first part (unread' ++ rest) one_line)
    ∙ sym (append_assoc parts (part ∷ []) (line_parts (unread' ++ rest)))

-- the next part was read
pub has_read_next : (parts : List (List ℕ)) (before now : ReaderNow) (a b c : World) → before.ended ≡ false → HasRead parts before a b → (r : ReadsPart before now b c) → HasRead (parts ++ r.part ∷ []) now a c
has_read_next parts before now a b c going h r =
    record {
      took = h.took ++ r.took;
      takes = takes_then h.took r.took a b c h.takes r.takes.takes;
      count = omega (arith, length-append {A = ℕ} h.took r.took, h.count, r.count);
      cut =
          λ more rest.
          ap line_parts (append_assoc h.took r.took rest)
          ∙ h.cut going (r.took ++ rest)
          ∙ next_cut before.unread r.took r.part now.unread rest parts r.one_line (cut_of (before.unread ++ r.took) r.part now c r.ends more);
      all =
          λ ended.
          let last = all_of (before.unread ++ r.took) r.part now c r.ends ended in (
            h.cut going r.took
                ∙ ap (λ (l : List ℕ). parts ++ line_parts l) last.0
                ∙ ap (λ (l : List (List ℕ)). parts ++ l) (part_alone r.part r.one_line),
            last.1,
          );
    }

-- ---- ends

-- parts that come first among these
pub record AreFirstParts (parts all : List (List ℕ)) : Type 0 where
  pub later : List (List ℕ)
  pub cut : all ≡ parts ++ later

first_where : (parts : List (List ℕ)) (now : ReaderNow) (a b : World) (ended : Bool) → now.ended ≡ ended → HasRead parts now a b → AreFirstParts parts (line_parts (a.left 0))
first_where parts now a b false e h =
    record { later = line_parts (now.unread ++ b.left 0); cut = ap line_parts h.takes.bytes ∙ h.cut e (b.left 0) }
first_where parts now a b true e h =
    record {
      later = [];
      cut =
          ap line_parts (h.takes.bytes ∙ ap (λ (l : List ℕ). h.took ++ l) (h.all e).1 ∙ append-nil h.took)
          ∙ (h.all e).0 ∙ sym (append-nil parts);
    }

-- what was read comes first among the parts of the input
pub parts_first : (parts : List (List ℕ)) (now : ReaderNow) (a b : World) → HasRead parts now a b → AreFirstParts parts (line_parts (a.left 0))
parts_first parts now a b h = first_where parts now a b now.ended refl h

-- all of the input was read
pub parts_all : (parts : List (List ℕ)) (now : ReaderNow) (a b : World) → now.ended ≡ true → HasRead parts now a b → (line_parts (a.left 0) ≡ parts) × (b.left 0 ≡ [])
parts_all parts now a b ended h = (
  ap line_parts (h.takes.bytes ∙ ap (λ (l : List ℕ). h.took ++ l) (h.all ended).1 ∙ append-nil h.took) ∙ (h.all ended).0,
  (h.all ended).1,
)

-- reading on gave nothing, so all of the input was read
pub parts_over : (parts : List (List ℕ)) (before now : ReaderNow) (a b c : World) → HasRead parts before a b → ReadsOn false before now b c → (line_parts (a.left 0) ≡ parts) × (c.left 0 ≡ [])
parts_over parts before now a b c h over =
    let all = parts_all parts before a b over.0 h in
    (all.0, ap (λ (l : ℕ → List ℕ). l 0) over.2.left ∙ all.1)

-- Reading on failed: the bytes that were taken in all, and of which the parts that were read are those that ended within the limit.
pub record Stopped (parts : List (List ℕ)) (why : Stop) (took : List ℕ) (a c : World) : Type 0 where
  pub takes : TakesIn took a c
  pub ended : (why ≡ stop.Memory → ⊥) → all_but_last (line_parts (take MOST_INPUT took)) ≡ parts
  pub long : (why ≡ stop.InputLong → length took ≡ MOST_INPUT + 1) × (length took ≡ MOST_INPUT + 1 → why ≡ stop.InputLong)
  pub bound : length took ≤ MOST_INPUT + 1

take_within : (most : ℕ) (took more : List ℕ) (n : ℕ) → length took ≡ n → n ≤ most → take most (took ++ more) ≡ took ++ take (most - n) more
take_within most took more n size limit =
    let room : most ≡ length took + (most - n) = omega (arith, size, limit) in
    ap (λ (k : ℕ). take k (took ++ more)) room ∙ take-append-add took more (most - n)

pub parts_stopped : (parts : List (List ℕ)) (before : ReaderNow) (why : Stop) (a b c : World) → (h : HasRead parts before a b) → (r : ReadsNoPart before why b c) → Stopped parts why (h.took ++ r.took) a c
parts_stopped parts before why a b c h r =
    let size = length-append {A = ℕ} h.took r.took in
    let last = take (MOST_INPUT - before.taken) r.took in
    record {
      takes = takes_then h.took r.took a b c h.takes r.takes.takes;
      ended =
          λ other.
          ap (λ (l : List ℕ). all_but_last (line_parts l)) (take_within MOST_INPUT h.took r.took before.taken h.count r.limit)
          ∙ ap all_but_last (h.cut r.going last)
          ∙ ap (λ (l : List (List ℕ)). all_but_last (parts ++ l)) (part_alone (before.unread ++ last) (r.no_line other))
          ∙ all_but_one parts (before.unread ++ last);
      long = (λ e. omega (arith, r.long.0 e, h.count, size), λ e. r.long.1 (omega (arith, e, h.count, size)));
      bound = omega (arith, r.bound, h.count, size);
    }
