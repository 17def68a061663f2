mod ArgLaws
