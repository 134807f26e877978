pub mod Contents
pub mod ImageKinds
pub mod Images
pub mod ImageTable
pub mod ImagePremises
pub mod OneAnswer
