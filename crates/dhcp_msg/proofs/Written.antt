-- What is written is read as the message.
use Rattle.std.proofs.Common.{◌≡◌, ◌≢◌, ℕ, zero, suc, ◌+◌, ◌-◌, ◌^◌, ◌≤◌, ◌<◌, eqb, false, List, [], ◌∷◌, ◌++◌, length, take, drop, get_or, None, refl, sym, ap, subst, ◌∙◌, append_assoc, length-append, length-drop, arith, inl, inr}
use Rattle.std.specs.Prelude.{replicate}
use Rattle.std.specs.List.{flat_map, AllByRecursion}
use Rattle.std.proofs.lemmas.Bool.{cases_Bool, ne_eqb}
use Rattle.std.proofs.lemmas.List.{append-nil, drop-drop, drop_at, take_at, length-replicate}
use Rattle.byteorder.specs.Endian.{big_bytes, big_number}
use Rattle.byteorder.specs.Numbers.{big_number-reads_back}
use Rattle.dhcp_msg.specs.declared.message.Message.{Message}
use Rattle.dhcp_msg.specs.declared.dhcp_option.DhcpOption.{DhcpOption}
use Rattle.dhcp_msg.specs.Fields.{option_bytes, Holds, end, option}
use Rattle.dhcp_msg.specs.Layout.{cookie, bytes_at, before_zero, file_field, sname_field, message_at}
use Rattle.dhcp_msg.specs.Messages.{IsWritable, CanBeWritten, IsMessage}
use Rattle.dhcp_msg.specs.Options.{value_of, AreDistinct, without, joined}
use Rattle.dhcp_msg.specs.Spelling.{HasAddressSizes, zeros, padded, head_bytes, address_bytes, text_bytes, options_bytes, spelling}

-- ---- options

without-none : (code : ℕ) (os : List DhcpOption) → value_of code os ≡ None → without code os ≡ os
without-none code [] e = refl
without-none code (o ∷ os) e =
    elim (cases_Bool (eqb o.code code)) [
      | inl hit ↦ absurd (let k = rw hit at e in cc)
      | inr miss ↦ rw (miss, without-none code os (rw miss at e)) refl
    ]

pub joined-distinct : (os : List DhcpOption) → AreDistinct os → joined os ≡ os
joined-distinct [] d = refl
joined-distinct (o ∷ os) d =
    rw (joined-distinct os d.1, d.0, without-none o.code os d.0) (ap (λ (v : List ℕ). record { code = o.code; value = v } ∷ os) (append-nil o.value))

no_overload : (os : List DhcpOption) → AllByRecursion IsWritable os → value_of 52 os ≡ None
no_overload [] w = refl
no_overload (o ∷ os) w = let other : eqb o.code 52 ≡ false = ne_eqb _ _ w.0.no_overload in rw other (no_overload os w.1)

Holds-written : (os : List DhcpOption) → AllByRecursion IsWritable os → Holds (flat_map option_bytes os ++ 255 ∷ []) os
Holds-written [] w = end []
Holds-written (o ∷ os) w =
    let rest = flat_map option_bytes os ++ 255 ∷ [] in
    subst (λ (l : List ℕ). Holds l (o ∷ os)) (sym (append_assoc (option_bytes o) (flat_map option_bytes os) (255 ∷ []))) (option o rest os w.0.code (Holds-written os w.1))

-- ---- texts

one_more : (n : ℕ) → 1 + n ≡ suc n
one_more n = omega arith

before_zero-cons : (b : ℕ) (xs : List ℕ) → b ≢ 0 → before_zero (b ∷ xs) ≡ b ∷ before_zero xs
before_zero-cons b xs ne = let miss : eqb b 0 ≡ false = ne_eqb _ _ ne in rw (miss, one_more) refl

before_zero-padded : (text : List ℕ) (n : ℕ) → AllByRecursion (λ b. b ≢ 0) text → before_zero (text ++ replicate n 0) ≡ text
before_zero-padded [] zero a = refl
before_zero-padded [] (suc n) a = refl
before_zero-padded (b ∷ text) n a = before_zero-cons b (text ++ replicate n 0) a.0 ∙ ap (λ (l : List ℕ). b ∷ l) (before_zero-padded text n a.1)

length-padded : (size : ℕ) (text : List ℕ) → length text ≤ size → length (padded size text) ≡ size
length-padded size text h = omega (arith, length-append text (replicate (size - length text) 0), length-replicate {A = ℕ} (size - length text) 0)

-- ---- parts of the whole

-- the parts of the bytes from a place on
past : (bytes front rest : List ℕ) (at n there : ℕ) → drop at bytes ≡ front ++ rest → length front ≡ n → at + n ≡ there → drop there bytes ≡ rest
past bytes front rest at n there e len is = ap (λ (k : ℕ). drop k bytes) (sym is) ∙ sym (drop-drop n at bytes) ∙ ap (drop n) e ∙ drop_at front rest n len

part : (bytes front rest : List ℕ) (at n : ℕ) → drop at bytes ≡ front ++ rest → length front ≡ n → bytes_at at n bytes ≡ front
part bytes front rest at n e len = ap (take n) e ∙ take_at front rest n len

-- sizes that the types of the fields give
pub record HasSizes (m : Message) : Type 0 where
  pub xid : m.xid < 2 ^ 32
  pub flags : m.flags < 2 ^ 16
  pub addresses : HasAddressSizes m

-- where the parts stand
record Stands (m : Message) (bytes : List ℕ) : Type 0 where
  after_xid : List ℕ
  after_flags : List ℕ
  op : get_or bytes 0 0 ≡ m.op
  xid : drop 4 bytes ≡ big_bytes 4 m.xid ++ after_xid
  flags : drop 10 bytes ≡ big_bytes 2 m.flags ++ after_flags
  yiaddr : bytes_at 16 4 bytes ≡ m.yiaddr.bytes
  siaddr : bytes_at 20 4 bytes ≡ m.siaddr.bytes
  chaddr : bytes_at 28 6 bytes ≡ m.chaddr.bytes
  sname : sname_field bytes ≡ padded 64 m.sname
  file : file_field bytes ≡ padded 128 m.file
  marked : drop 236 bytes ≡ cookie ++ options_bytes m.options
  options : drop 240 bytes ≡ options_bytes m.options

regroup : (a b c d e f g h i j k l q o : List ℕ) → ((((((a ++ b) ++ c) ++ d) ++ (((((e ++ f) ++ g) ++ h) ++ i) ++ j)) ++ (k ++ l)) ++ q) ++ o
    ≡ a ++ (b ++ (c ++ (d ++ (e ++ (f ++ (g ++ (h ++ (i ++ (j ++ (k ++ (l ++ (q ++ o))))))))))))
regroup a b c d e f g h i j k l q o = simp append_assoc

-- the parts that follow each part
module _ (m : Message) where
  from_options : List ℕ
  from_options = cookie ++ options_bytes m.options

  from_file : List ℕ
  from_file = padded 128 m.file ++ from_options

  from_sname : List ℕ
  from_sname = padded 64 m.sname ++ from_file

  from_chaddr : List ℕ
  from_chaddr = m.chaddr.bytes ++ (zeros 10 ++ from_sname)

  from_siaddr : List ℕ
  from_siaddr = m.siaddr.bytes ++ (zeros 4 ++ from_chaddr)

  from_yiaddr : List ℕ
  from_yiaddr = m.yiaddr.bytes ++ from_siaddr

  from_flags : List ℕ
  from_flags = big_bytes 2 m.flags ++ (zeros 4 ++ from_yiaddr)

  from_xid : List ℕ
  from_xid = big_bytes 4 m.xid ++ (zeros 2 ++ from_flags)

first : Message → List ℕ
first m = m.op ∷ 1 ∷ 6 ∷ 0 ∷ []

regrouped : (m : Message) → spelling m ≡ first m ++ from_xid m
unfolding spelling head_bytes address_bytes text_bytes from_options from_file from_sname from_chaddr from_siaddr from_yiaddr from_flags from_xid first
regrouped m =
    regroup (m.op ∷ 1 ∷ 6 ∷ 0 ∷ []) (big_bytes 4 m.xid) (zeros 2) (big_bytes 2 m.flags) (zeros 4) m.yiaddr.bytes m.siaddr.bytes (zeros 4) m.chaddr.bytes (zeros 10) (padded 64 m.sname) (padded 128 m.file) cookie (options_bytes m.options)

stands : (m : Message) → HasSizes m → length m.sname ≤ 64 → length m.file ≤ 128 → Stands m (spelling m)
unfolding from_options from_file from_sname from_chaddr from_siaddr from_yiaddr from_flags from_xid first
stands m sizes sname file =
    let bytes = spelling m in
    let long = length-padded 64 m.sname sname in
    let longer = length-padded 128 m.file file in
    let at_4 = past bytes (first m) (from_xid m) 0 4 4 (regrouped m) refl refl in
    let at_8 = past bytes (big_bytes 4 m.xid) (zeros 2 ++ from_flags m) 4 4 8 at_4 refl refl in
    let at_10 = past bytes (zeros 2) (from_flags m) 8 2 10 at_8 refl refl in
    let at_12 = past bytes (big_bytes 2 m.flags) (zeros 4 ++ from_yiaddr m) 10 2 12 at_10 refl refl in
    let at_16 = past bytes (zeros 4) (from_yiaddr m) 12 4 16 at_12 refl refl in
    let at_20 = past bytes m.yiaddr.bytes (from_siaddr m) 16 4 20 at_16 sizes.addresses.yiaddr refl in
    let at_24 = past bytes m.siaddr.bytes (zeros 4 ++ from_chaddr m) 20 4 24 at_20 sizes.addresses.siaddr refl in
    let at_28 = past bytes (zeros 4) (from_chaddr m) 24 4 28 at_24 refl refl in
    let at_34 = past bytes m.chaddr.bytes (zeros 10 ++ from_sname m) 28 6 34 at_28 sizes.addresses.chaddr refl in
    let at_44 = past bytes (zeros 10) (from_sname m) 34 10 44 at_34 refl refl in
    let at_108 = past bytes (padded 64 m.sname) (from_file m) 44 64 108 at_44 long refl in
    let at_236 = past bytes (padded 128 m.file) (from_options m) 108 128 236 at_108 longer refl in
    record {
      after_xid = zeros 2 ++ from_flags m;
      after_flags = zeros 4 ++ from_yiaddr m;
      op = ap (λ (l : List ℕ). get_or l 0 0) (regrouped m);
      xid = at_4;
      flags = at_10;
      yiaddr = part bytes m.yiaddr.bytes (from_siaddr m) 16 4 at_16 sizes.addresses.yiaddr;
      siaddr = part bytes m.siaddr.bytes (zeros 4 ++ from_chaddr m) 20 4 at_20 sizes.addresses.siaddr;
      chaddr = part bytes m.chaddr.bytes (zeros 10 ++ from_sname m) 28 6 at_28 sizes.addresses.chaddr;
      sname = part bytes (padded 64 m.sname) (from_file m) 44 64 at_44 long;
      file = part bytes (padded 128 m.file) (from_options m) 108 128 at_108 longer;
      marked = at_236;
      options = past bytes cookie (options_bytes m.options) 236 4 240 at_236 refl refl;
    }

make : ℕ → ℕ → ℕ → List ℕ → List ℕ → List ℕ → List ℕ → List ℕ → List DhcpOption → Message
make op xid flags yiaddr siaddr chaddr sname file options =
    record { op = op; xid = xid; flags = flags; yiaddr = record { bytes = yiaddr }; siaddr = record { bytes = siaddr }; chaddr = record { bytes = chaddr }; sname = sname; file = file; options = options }

make-same : (op op' xid xid' flags flags' : ℕ) (yiaddr yiaddr' siaddr siaddr' chaddr chaddr' sname sname' file file' : List ℕ) (options options' : List DhcpOption)
    → op ≡ op' → xid ≡ xid' → flags ≡ flags' → yiaddr ≡ yiaddr' → siaddr ≡ siaddr' → chaddr ≡ chaddr' → sname ≡ sname' → file ≡ file' → options ≡ options'
    → make op xid flags yiaddr siaddr chaddr sname file options ≡ make op' xid' flags' yiaddr' siaddr' chaddr' sname' file' options'
make-same op op' xid xid' flags flags' yiaddr yiaddr' siaddr siaddr' chaddr chaddr' sname sname' file file' options options' a b c d e f g h i = cc

message_at-spelled : (m : Message) (bytes sname file : List ℕ) (options : List DhcpOption) → HasSizes m → Stands m bytes → sname ≡ m.sname → file ≡ m.file → options ≡ m.options → message_at bytes sname file options ≡ m
unfolding message_at make
message_at-spelled m bytes sname file options sizes s e f g =
    make-same _ _ _ _ _ _ _ _ _ _ _ _ _ _ _ _ _ _ s.op
    (ap (big_number 4) s.xid ∙ big_number-reads_back 4 m.xid s.after_xid sizes.xid)
    (ap (big_number 2) s.flags ∙ big_number-reads_back 2 m.flags s.after_flags sizes.flags)
    s.yiaddr s.siaddr s.chaddr e f g

pub is_spelled : (m : Message) → CanBeWritten m → HasSizes m → AreDistinct m.options → IsMessage (spelling m) m
unfolding options_bytes
is_spelled m w sizes distinct =
    let bytes = spelling m in
    let s = stands m sizes w.sname.short w.file.short in
    let os = m.options in
    let same = joined-distinct os distinct in
    let all : joined (os ++ [] ++ []) ≡ os = ap joined (append-nil (os ++ []) ∙ append-nil os) ∙ same in
    let sname : before_zero (sname_field bytes) ≡ m.sname = ap before_zero s.sname ∙ before_zero-padded m.sname (64 - length m.sname) w.sname.no_zero in
    let file : before_zero (file_field bytes) ≡ m.file = ap before_zero s.file ∙ before_zero-padded m.file (128 - length m.file) w.file.no_zero in
    record {
      own = os;
      in_file = [];
      in_sname = [];
      overload = record { file = false; sname = false };
      long = omega (arith, ap length s.options, length-drop 240 bytes, length-append (flat_map option_bytes os) (255 ∷ []));
      marked = ap (take 4) s.marked;
      options = subst (λ (l : List ℕ). Holds l os) (sym s.options) (Holds-written os w.options);
      overloads = ap (value_of 52) same ∙ no_overload os w.options;
      file = refl;
      sname = refl;
      whole = sym (message_at-spelled m bytes _ _ _ sizes s sname file all);
    }
