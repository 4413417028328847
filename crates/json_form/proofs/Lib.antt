pub mod MemberLemmas
pub mod ItemLemmas
pub mod SpelledLemmas
