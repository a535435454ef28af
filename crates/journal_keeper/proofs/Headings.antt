-- What a file says of itself, by its first bytes.
use Rattle.std.proofs.Common.{◌≡◌, ◌≢◌, inl, inr, ℕ, ◌+◌, ◌-◌, ◌*◌, ◌/◌, ◌%◌, ◌^◌, ◌<◌, ◌≤◌, min, List, ◌++◌, length, get_or, take, drop, sym, ◌∙◌, ap, subst, arith, append_assoc, length-take, length-drop}
use Rattle.std.proofs.lemmas.List.{take-append-drop, take_all, get_or-take}
use Rattle.std.proofs.Math.Seq.{take-append-add}
use Rattle.journal_format.specs.Header.{magic, IsIdle, IsVersion, IsHeading}
use Rattle.journal_format.specs.Spelling.{big_endian}
use Rattle.journal_format.specs.declared.file_header.Heading.{Heading}
use Rattle.journal_format.specs.declared.file_header.Heading.TheVariants.{Live, Idle, Version, Foreign}
use Rattle.journal_keeper.specs.Files.{IsLiveFile, IsIdleFile, IsVersionFile, IsForeignFile, IsFileOf}

-- a file of sixteen bytes and more
long_file : (file : List ℕ) (heading : Heading) → 2 ≤ length file → IsHeading (take 16 file) heading → IsFileOf file heading
long_file file (Live turn) long is = is
long_file file Idle long is = inr is
long_file file (Version n) long is = is
long_file file Foreign long is = (is.0, not_idle, is.2)
  where
    not_idle : IsIdleFile file → ⊥
    not_idle (inl short) = omega (arith, short, long)
    not_idle (inr idle) = is.1 idle

pub whole_heading : (head file : List ℕ) (n : ℕ) (heading : Heading) → length head ≡ 16 → n ≡ 16 → n ≡ min (length file) 16 → take n head ≡ take n file → IsHeading head heading → IsFileOf file heading
whole_heading head file n heading len full count same is =
    let t = sym (take_all 16 head (omega (arith, len))) ∙ subst (λ (k : ℕ). take k head ≡ take k file) full same in
    long_file file heading (omega (arith, count, full)) (subst (λ (l : List ℕ). IsHeading l heading) t is)

version_bytes : (n : ℕ) → n < 2 ^ 32 → n ≡ n / 16777216 % 256 * 16777216 + n / 65536 % 256 * 65536 + n / 256 % 256 * 256 + n % 256
version_bytes n small = omega arith

module _ (head file : List ℕ) (n : ℕ) (len : length head ≡ 16) (some : 1 < n) (first : get_or head 0 0 ≢ 0) (short : n ≢ 16) (count : n ≡ min (length file) 16) (same : take n head ≡ take n file) where
  file_long : length file ≡ n
  file_long = omega (arith, count, short)

  all_taken : take 16 file ≡ file
  all_taken = let l = file_long in take_all 16 file (omega (arith, l, count))

  n_taken : take n file ≡ file
  n_taken = let l = file_long in take_all n file (omega (arith, l))

  head_is : head ≡ file ++ drop n head
  head_is = sym (take-append-drop n head) ∙ ap (λ (l : List ℕ). l ++ drop n head) (same ∙ n_taken)

  first_is : get_or file 0 0 ≡ get_or head 0 0
  first_is = ap (λ (l : List ℕ). get_or l 0 0) (sym n_taken ∙ sym same) ∙ get_or-take n head 0 0 (omega arith)

  not_live : (turn : ℕ) → IsLiveFile turn file → ⊥
  not_live turn live = let l = file_long in let t = ap length (sym all_taken ∙ live.1) in omega (arith, l, t, count, short)

  not_idle : IsIdleFile file → ⊥
  not_idle (inl few) = let l = file_long in omega (arith, l, few)
  not_idle (inr (inl zeroed)) = first (sym first_is ∙ ap (λ (l : List ℕ). get_or l 0 0) (sym all_taken) ∙ zeroed)
  not_idle (inr (inr other)) =
      let l = file_long in
      let t = ap length other.1.1.1 in
      let d = length-drop 1 (take 16 file) in
      let k = length-take 16 file in
      omega (arith, l, t, d, k, count, short)

  pub few_foreign : n < 12 → IsForeignFile file
  few_foreign few = (not_live, not_idle, λ v version. let l = file_long in let t = ap length (sym all_taken ∙ version.2.1) in omega (arith, l, t, few))

  in_head : (v : ℕ) → IsVersionFile v file → IsVersion v head
  in_head v version = (version.0, version.1, (version.2.0 ++ drop n head, head_is ∙ ap (λ (l : List ℕ). l ++ drop n head) (sym all_taken ∙ version.2.1)))

  pub live_foreign : (turn : ℕ) → IsHeading head (Live turn) → IsForeignFile file
  live_foreign turn live = (
    not_live,
    not_idle,
    λ v version.
        let is = sym (in_head v version).2.1 ∙ live.1 in
        let a = ap (λ (l : List ℕ). get_or l 8 0) is in
        let b = ap (λ (l : List ℕ). get_or l 9 0) is in
        let c = ap (λ (l : List ℕ). get_or l 10 0) is in
        let d = ap (λ (l : List ℕ). get_or l 11 0) is in
        version.1 (version_bytes v version.0 ∙ omega (arith, a, b, c, d)),
  )

  pub idle_foreign : IsHeading head Idle → IsForeignFile file
  idle_foreign idle = (not_live, not_idle, λ v version. by_idle v (in_head v version) idle)
    where
      by_idle : (v : ℕ) → IsVersion v head → IsIdle head → ⊥
      by_idle v version (inl zeroed) = first zeroed
      by_idle v version (inr other) = other.0 (ap (λ (l : List ℕ). get_or l 0 0) version.2.1)

  pub foreign : IsHeading head Foreign → IsForeignFile file
  foreign is = (not_live, not_idle, λ v version. is.2 v (in_head v version))

  pub version_there : (v : ℕ) → 12 ≤ n → IsHeading head (Version v) → IsFileOf file (Version v)
  version_there v long version =
      let begins : List ℕ = magic ++ big_endian 4 v in
      let more = n - 12 in
      let all : head ≡ begins ++ version.2.0 = version.2.1 ∙ sym (append_assoc magic (big_endian 4 v) version.2.0) in
      let count12 : n ≡ length begins + more = omega (arith, long) in (
        version.0,
        version.1,
        (
          take more version.2.0,
          all_taken ∙ sym n_taken ∙ sym same ∙ ap (take n) all ∙ ap (λ (k : ℕ). take k (begins ++ version.2.0)) count12 ∙ take-append-add begins version.2.0 more ∙ append_assoc magic (big_endian 4 v) (take more version.2.0),
        ),
      )
