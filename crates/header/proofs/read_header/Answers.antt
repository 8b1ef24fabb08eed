-- `header::read_header` meets its contract: each return is one reason or the last height, in the order that the bytes come. Assumes nothing.
use mathlib.Core.Path.{◌≡◌, sym, ap, ◌∙◌}
use mathlib.Core.Bool.{true}
use Prim.Native.Nat.{ℕ, ◌+◌, ◌≤◌}
use native.Mathlib.Omega.{arith}
use borrow.Author.Tests.{eq-eqb, ne_eqb}
use lib.ListN.{length, take}
use Rattle.kinds.specs.Answers.{unknown_version}
use Rattle.rules.specs.Ids.{same}
use Rattle.rules.proofs.Bytes.{are_bytes_lem}
use Rattle.mem.specs.Le.{le_at}
use Rattle.format.specs.Parts.{bad, begun}
use Rattle.format.specs.File.{version_told, magic}
use Rattle.header.proofs.Same.{is_magic}
use Rattle.reader.proofs.Taken.{number_taken}
use Rattle.header.proofs.Parts.{after_room, head_short, head_other, head_no_version, head_version, head_width, head_rest}
use Rattle.header.proofs.read_header.Goals as goal
use Rattle.header.proofs.read_header.Goals.{After-u64_le-m, Else-m-ne-MAGIC}

-- the number of the first eight bytes
first_eight : (u : After-u64_le-m) → u.u64_le-m.result ≡ le_at 8 u.args.s.now 0
first_eight u = u.u64_le-m.ensures ∙ number_taken 8 u.args.s.now 0 u.part.result.now u.part.ensures

-- the magic is there, from where it was compared
magic_room : (m : Else-m-ne-MAGIC) → 8 ≤ length m.args.s.now
magic_room m = omega arith

magic_there : (m : Else-m-ne-MAGIC) → same (take 8 m.args.s.now) magic ≡ true
magic_there m =
    let n : le_at 8 m.args.s.now 0 ≡ 0x5345454645535242 = omega (arith, first_eight (goal.at.Else-m-ne-MAGIC m).After-u64_le-m, m.if-m-ne-MAGIC.false) in
    sym (is_magic m.args.s.now (magic_room m) (are_bytes_lem m.args.s.now (λ i. (m.type_inv.s i).fits))) ∙ eq-eqb _ _ n

pub returns-then-s-lt8 : goal.returns-then-s-lt8
unfolding begun
returns-then-s-lt8 c = sym (ap begun (head_short _ c.args.s.now (omega arith)))

pub returns-then-m-ne-MAGIC : goal.returns-then-m-ne-MAGIC
unfolding begun
returns-then-m-ne-MAGIC c =
    let h : 8 ≤ length c.args.s.now = omega arith in
    let n : le_at 8 c.args.s.now 0 ≡ 0x5345454645535242 → ⊥ = λ e. omega (arith, first_eight (goal.at.returns-then-m-ne-MAGIC c).After-u64_le-m, c.if-m-ne-MAGIC.true) in
    sym (ap begun (head_other _ c.args.s.now h (sym (is_magic c.args.s.now h (are_bytes_lem c.args.s.now (λ i. (c.type_inv.s i).fits))) ∙ ne_eqb _ _ n)))

pub returns-then-s-lt12 : goal.returns-then-s-lt12
unfolding begun
returns-then-s-lt12 c = sym (ap begun (head_no_version _ _ (magic_room (goal.at.returns-then-s-lt12 c).Else-m-ne-MAGIC) (magic_there (goal.at.returns-then-s-lt12 c).Else-m-ne-MAGIC) (omega arith)))

pub returns-then-v-number_of : goal.returns-then-v-number_of
unfolding begun
returns-then-v-number_of c =
    let v = version_told c.args.version in
    let n : le_at 4 c.args.s.now 8 ≡ v.number → ⊥ = λ e. omega (arith, c.number-v.ensures, c.number_of.ensures, c.if-v-number_of.true) in
    ap (λ (n : ℕ). bad (unknown_version n)) c.number-v.ensures ∙ sym (ap begun (head_version v _ (magic_room (goal.at.returns-then-v-number_of c).Else-m-ne-MAGIC) (magic_there (goal.at.returns-then-v-number_of c).Else-m-ne-MAGIC) (omega arith) n))

pub starts-requires : goal.starts-requires
starts-requires c =
    omega (arith, after_room (version_told c.args.version) c.args.s.now (omega arith) (sym c.followed.ensures ∙ c.if-not-followed.false), c.after_len.ensures.value)

pub returns-then-not-followed : goal.returns-then-not-followed
unfolding begun
returns-then-not-followed c =
    let v = version_told c.args.version in
    let n : le_at 4 c.args.s.now 8 ≡ v.number = omega (arith, c.number-v.ensures, c.number_of.ensures, c.if-v-number_of.false) in
    sym (ap begun (head_width v _ (magic_room (goal.at.returns-then-not-followed c).Else-m-ne-MAGIC) (magic_there (goal.at.returns-then-not-followed c).Else-m-ne-MAGIC) (omega arith) n (sym c.followed.ensures ∙ c.if-not-followed.true)))

pub returns : goal.returns
returns c =
    let v = version_told c.args.version in
    let n : le_at 4 c.args.s.now 8 ≡ v.number = omega (arith, c.number-v.ensures, c.number_of.ensures, c.if-v-number_of.false) in
    c.starts.ensures
    ∙ sym (ap begun (head_rest v _ (magic_room (goal.at.returns c).Else-m-ne-MAGIC) (magic_there (goal.at.returns c).Else-m-ne-MAGIC) (omega arith) n (12 + c.after_len.result) (ap (λ (i : ℕ). 12 + i) c.after_len.ensures.value) (sym c.followed.ensures ∙ c.if-not-followed.false)))
