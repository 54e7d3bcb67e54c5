-- What is held while records are added one after the other.
use Rattle.std.proofs.Common.{◌≡◌, ◌⊎◌, inl, inr, ◌^◌, ℕ, ◌+◌, ◌<◌, ◌≤◌, List, [], ◌∷◌, ◌++◌, length, take, get_or, Option, Some, None, IfSome, IsSomeAnd, sym, ap, subst, ◌∙◌, arith, length-append, take_all}
use Rattle.std.proofs.lemmas.List.{take_more, length-take-le}
use Rattle.iss_model.specs.declared.input.Record.{Record}
use Rattle.iss_model.specs.declared.entry.Entry.{Entry}
use Rattle.iss_model.specs.rules.Histories.{history_keeper, history_of}
use Rattle.iss_model.specs.rules.Stepping.{step}
use Rattle.iss_archive.specs.declared.post.Head.{Head}
use Rattle.iss_archive.specs.declared.post.PostRow.{PostRow}
use Rattle.iss_archive.specs.declared.source.Stepped.{Stepped}
use Rattle.iss_archive.specs.Archived.{Archived, Told, Same, records_in, posts_in}
use Rattle.iss_archive.specs.Postings.{postings_of, postings_of_entries, head_over, IsHeadOver, IsArchiveOf}
use Rattle.iss_archive.specs.Archiving.{IsStepOf, AddsRecord, MayAddRecord, HoldsFirst, Run, IsStrange, head_next, postings_next}
use Rattle.iss_archive.specs.Runs.{KeepsUp, IsUpToDate, LeavesFirst}
use Rattle.iss_archive.proofs.PostingLaws.{postings_more}

-- the head over some records counts them and their postings
pub records_are : (instance : ℕ) (rs : List Record) (head : Option Head) → IsHeadOver instance rs head → records_in head ≡ length rs
records_are instance rs None none = ap (λ (all : List Record). length all) (sym none)
records_are instance rs (Some h) is = ap (λ (k : Head). k.records) is

posts_are : (instance : ℕ) (rs : List Record) (head : Option Head) → IsHeadOver instance rs head → posts_in head ≡ length (postings_of rs)
posts_are instance rs None none = ap (λ (all : List Record). length (postings_of all)) (sym none)
posts_are instance rs (Some h) is = ap (λ (k : Head). k.posts) is

-- one record more
adds_to : (instance : ℕ) (before : List Record) (r : Record) (s : Stepped) (a b : Archived) → IsArchiveOf instance before a → s.number ≡ length before + 1 → s.at ≡ r.at
    → s.entries.items ≡ (step history_keeper (history_of before) r).entries → AddsRecord instance s a b → IsArchiveOf instance (before ++ r ∷ []) b
adds_to instance before r s a b archive number at entries adds =
    let es : List Entry = (step history_keeper (history_of before) r).entries in
    let posts : posts_in a.head ≡ length (postings_of before) = posts_are instance before a.head archive.head in
    let first : posts_in a.head + 1 ≡ 1 + length (postings_of before) = omega (arith, posts) in
    let next : postings_next a.head s ≡ postings_of_entries (1 + length (postings_of before)) (length before + 1) r.at es =
    ap (λ (k : ℕ). postings_of_entries k s.number s.at s.entries.items) first
    ∙ ap (λ (k : ℕ). postings_of_entries (1 + length (postings_of before)) k s.at s.entries.items) number
    ∙ ap (λ (k : ℕ). postings_of_entries (1 + length (postings_of before)) (length before + 1) k s.entries.items) at
    ∙ ap (λ (all : List Entry). postings_of_entries (1 + length (postings_of before)) (length before + 1) r.at all) entries in
    let all : postings_of (before ++ r ∷ []) ≡ postings_of before ++ postings_next a.head s = postings_more before r ∙ ap (λ (more : List PostRow). postings_of before ++ more) (sym next) in
    let counted : posts_in a.head + length (postings_next a.head s) ≡ length (postings_of (before ++ r ∷ [])) =
    omega (arith, posts, ap (λ (xs : List PostRow). length xs) all, length-append (postings_of before) (postings_next a.head s)) in
    let many : s.number ≡ length (before ++ r ∷ []) = omega (arith, number, length-append before (r ∷ [])) in
    let head : head_next instance a.head s ≡ head_over instance (before ++ r ∷ []) = λ i. record { instance = instance; records = many i; posts = counted i } in
    let is : IsArchiveOf instance (before ++ r ∷ []) (record { head = Some (head_next instance a.head s); rows = a.rows ++ postings_next a.head s }) =
    record { head = head; rows = ap (λ (xs : List PostRow). xs ++ postings_next a.head s) archive.rows ∙ sym all } in
    subst (IsArchiveOf instance (before ++ r ∷ [])) (sym adds) is

-- the archive of the first n records becomes that of one more
pub adds_next : (instance n : ℕ) (rs : List Record) (s : Stepped) (a b : Archived) → IsArchiveOf instance (take n rs) a → IsStepOf rs n s → AddsRecord instance s a b
    → IsArchiveOf instance (take (n + 1) rs) b
adds_next instance n [] s a b archive is adds = absurd (omega (arith, is.within))
adds_next instance n (x ∷ xs) s a b archive is adds =
    let rs : List Record = x ∷ xs in
    let lt : n < length rs = omega (arith, is.within) in
    let number : s.number ≡ length (take n rs) + 1 = omega (arith, is.number, length-take-le n rs (omega arith)) in
    subst (λ (all : List Record). IsArchiveOf instance all b) (sym (take_more rs n x lt))
    (adds_to instance (take n rs) (get_or rs n x) s a b archive number (is.at x) (is.entries x) adds)

-- If the archive of the first k records was held, that of the first n is held, and k is at most n.
abbrev pub HoldsUpTo : ℕ → List Record → ℕ → Option Archived → Option Archived → Type 0
HoldsUpTo instance rs n was now = (k : ℕ) → k ≤ length rs → IfSome was (λ a. IsArchiveOf instance (take k rs) a) → IfSome now (λ b. (k ≤ n) × IsArchiveOf instance (take n rs) b)

-- it begins so, once the head was read
pub holds_first : (instance : ℕ) (rs : List Record) (head : Option Head) (was now : Option Archived) → Told (λ a b. Same a b × (head ≡ b.head)) was now → HoldsUpTo instance rs (records_in head) was now
holds_first instance rs head was None told k le held = tt
holds_first instance rs head None (Some b) told k le held = absurd told
holds_first instance rs head (Some a) (Some b) told k le held =
    let many : records_in head ≡ k = ap (λ (h : Option Head). records_in h) (told.1 ∙ ap (λ (x : Archived). x.head) told.0) ∙ records_are instance (take k rs) a.head held.head ∙ length-take-le k rs le in
    let is : IsArchiveOf instance (take k rs) b = subst (IsArchiveOf instance (take k rs)) (sym told.0) held in
    (omega (arith, many), subst (λ (n : ℕ). IsArchiveOf instance (take n rs) b) (sym many) is)

-- a record is added
pub holds_next : (instance n : ℕ) (rs : List Record) (s : Stepped) (was mid now : Option Archived) → HoldsUpTo instance rs n was mid → IsStepOf rs n s → Told (AddsRecord instance s) mid now
    → HoldsUpTo instance rs (n + 1) was now
holds_next instance n rs s was mid None up is told k le held = tt
holds_next instance n rs s was None (Some b) up is told k le held = absurd told
holds_next instance n rs s was (Some a) (Some b) up is told k le held =
    let before = up k le held in (omega (arith, before.0), adds_next instance n rs s a b before.1 is told)

-- a record may have been added
pub may_hold_next : (instance n : ℕ) (rs : List Record) (s : Stepped) (was mid now : Option Archived) → n ≤ length rs → HoldsUpTo instance rs n was mid → IsStepOf rs n s → Told (MayAddRecord instance s) mid now
    → KeepsUp instance rs was now
may_hold_next instance n rs s was mid None fits up is told k le held = tt
may_hold_next instance n rs s was None (Some b) fits up is told k le held = absurd told
may_hold_next instance n rs s was (Some a) (Some b) fits up is (inl same) k le held =
    let before = up k le held in
    record { count = n; least = before.0; most = fits; archive = subst (IsArchiveOf instance (take n rs)) (sym same) before.1 }
may_hold_next instance n rs s was (Some a) (Some b) fits up is (inr adds) k le held =
    let before = up k le held in
    record { count = n + 1; least = omega (arith, before.0); most = omega (arith, is.within); archive = adds_next instance n rs s a b before.1 is adds }

-- what is held up to a record is of the first records
pub keeps_up : (instance n : ℕ) (rs : List Record) (was now : Option Archived) → n ≤ length rs → HoldsUpTo instance rs n was now → KeepsUp instance rs was now
keeps_up instance n rs was None fits up k le held = tt
keeps_up instance n rs was (Some b) fits up k le held = let is = up k le held in record { count = n; least = is.0; most = fits; archive = is.1 }

-- and up to the last one it is of all
pub is_whole : (instance n : ℕ) (rs : List Record) (was now : Option Archived) → length rs ≤ n → HoldsUpTo instance rs n was now → IsUpToDate instance rs was now
is_whole instance n rs was None all up k le held = tt
is_whole instance n rs was (Some b) all up k le held = subst (λ (xs : List Record). IsArchiveOf instance xs b) (take_all n rs all) (up k le held).1

-- the head that is told after a record
pub head_after : (instance : ℕ) (s : Stepped) (head : Option Head) (mid now : Option Archived) → IfSome mid (λ a. a.head ≡ head) → Told (AddsRecord instance s) mid now
    → IfSome now (λ b. b.head ≡ Some (head_next instance head s))
head_after instance s head mid None is told = tt
head_after instance s head None (Some b) is told = absurd told
head_after instance s head (Some a) (Some b) is told = ap (λ (x : Archived). x.head) told ∙ ap (λ (h : Option Head). Some (head_next instance h s)) is

-- a stop leaves what it left before
pub leaves_same : (instance : ℕ) (rs : List Record) (was : Option Archived) (left_was left_now : Archived → Type 0) → ((a : Archived) → left_now a → left_was a) → LeavesFirst instance rs was left_was left_now
leaves_same instance rs was left_was left_now back k le held first b now = record { count = k; least = omega arith; most = le; archive = first b (back b now) }

leaves_added : (instance n : ℕ) (rs : List Record) (s : Stepped) (was mid : Option Archived) (k : ℕ) → k ≤ length rs → IfSome was (λ a. IsArchiveOf instance (take k rs) a) → HoldsUpTo instance rs n was mid → IsStepOf rs n s
    → (b : Archived) → IsSomeAnd mid (λ a. AddsRecord instance s a b) → HoldsFirst instance rs k b
leaves_added instance n rs s was None k le held up is b adds = absurd adds
leaves_added instance n rs s was (Some a) k le held up is b adds =
    let before = up k le held in
    record { count = n + 1; least = omega (arith, before.0); most = omega (arith, is.within); archive = adds_next instance n rs s a b before.1 is adds }

-- a stop leaves what it left before, or a record more
pub leaves_next : (instance n : ℕ) (rs : List Record) (s : Stepped) (was mid : Option Archived) (left_was left_mid left_now : Archived → Type 0) → LeavesFirst instance rs was left_was left_mid → HoldsUpTo instance rs n was mid → IsStepOf rs n s
    → ((b : Archived) → left_now b → left_mid b ⊎ IsSomeAnd mid (λ a. AddsRecord instance s a b)) → LeavesFirst instance rs was left_was left_now
leaves_next instance n rs s was mid left_was left_mid left_now leaves up is stop k le held first b now =
    elim (stop b now) [
      | inl before ↦ leaves k le held first b before
      | inr adds ↦ leaves_added instance n rs s was mid k le held up is b adds
    ]

-- a record that would make more postings than can be counted can't be taken
pub full_told : (run : Run) (head : Option Head) (s : Stepped) (now : Option Archived) → IfSome now (λ a. a.head ≡ head) → IsStepOf run.records (records_in head) s
    → 2 ^ 63 ≤ (head_next run.instance head s).posts → IfSome now (IsStrange run)
full_told run head s None held step posts = tt
full_told run head s (Some a) held step posts =
    inr (record {
      next = s;
      step = subst (λ (h : Option Head). IsStepOf run.records (records_in h) s) (sym held) step;
      posts = subst (λ (h : Option Head). 2 ^ 63 ≤ (head_next run.instance h s).posts) (sym held) posts;
    })
